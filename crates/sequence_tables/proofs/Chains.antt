-- A number of copies is one copy less and then one more.
use Rattle.std.proofs.Common.{◌≡◌, ◌∙◌, refl, sym, ap, subst, ℕ, zero, suc, ◌+◌, ◌-◌, ◌<◌, ◌≤◌, eqb, Bool, true, false}
use Rattle.std.proofs.Common.{◌&&◌, ◌||◌, cond, List, [], ◌++◌, map, inl, inr, ◌⊎◌, arith, append_assoc}
use Rattle.std.specs.Prelude.{nat_lt}
use Rattle.std.proofs.lemmas.Bool.Decides.{Decides-eqb, nat_tests}
use Rattle.auto_core.specs.declared.labels.Literal.{Literal}
use Rattle.auto_core.specs.Edges.{renamed}
use Rattle.auto_core.specs.Machine.{Machine}
use Rattle.automata_product.specs.declared.side.Side.{Side}
use Rattle.automata_product.specs.declared.side.Side.TheVariants.{Left, Right}
use Rattle.sere_automata.specs.Concat.{concat_machine}
use Rattle.sequence_tables.specs.inner.Copies.{later, firsts, chain_edges, chain_machine}
use Rattle.sequence_tables.proofs.Embeds.{Embeds, embeds_self}
use Rattle.sequence_tables.proofs.Maps.{Maps, maps_renamed, maps_append, maps_if, renamed_there, renamed_back}
use Rattle.sequence_tables.proofs.Members.{Among, told, append-nil, Among-append}

left_or : {S T : Type 0} → S → Side S T → S
left_or d (Left p) = p
left_or d (Right q) = d

right_or : {S T : Type 0} → T → Side S T → T
right_or d (Left p) = d
right_or d (Right q) = q

left-same : {S T : Type 0} (p q : S) → ◌≡◌ {A = Side S T} (Left p) (Left q) → p ≡ q
unfolding left_or
left-same p q e = ap (left_or p) e

right-same : {S T : Type 0} (p q : T) → ◌≡◌ {A = Side S T} (Right p) (Right q) → p ≡ q
unfolding right_or
right-same p q e = ap (right_or p) e

pub later_le : (e : Bool) (r : ℕ) → later e r ≤ r
later_le e zero = omega arith
later_le true (suc r) = omega arith
later_le false (suc r) = omega arith

-- ---- one copy more

module _ {S : Type 0} (m : Machine S) where
  abbrev st : ℕ → List (List Literal × (ℕ × S))
  st k = map (renamed (λ q. (k, q))) (m.edges m.start)

  firsts-snoc : (i n k : ℕ) → i + suc n ≡ k → firsts m i (suc n) ≡ firsts m i n ++ st k
  firsts-snoc i zero k e = append-nil (st (suc i)) ∙ ap st (let s : suc i ≡ k = omega arith in s)
  firsts-snoc i (suc n) k e =
      ap (λ (z : List (List Literal × (ℕ × S))). st (suc i) ++ z) (firsts-snoc (suc i) n k (omega arith))
      ∙ sym (append_assoc (st (suc i)) (firsts m (suc i) n) (st k))

  firsts-later : (e : Bool) (i r k : ℕ) → i + suc r ≡ k →
      firsts m i (later e (suc r)) ≡ firsts m i (later e r) ++ cond (e || eqb (i + 1) k) (st k) []
  firsts-later true i zero k h = firsts-snoc i zero k h
  firsts-later true i (suc r) k h = firsts-snoc i (suc r) k h
  firsts-later false i zero k h =
      firsts-snoc i zero k h
      ∙ ap (λ (b : Bool). cond b (st k) []) (sym ((Decides-eqb (i + 1) k).1 (let s : i + 1 ≡ k = omega arith in s)))
  firsts-later false i (suc r) k h =
      elim (told (eqb (i + 1) k)) [
        | inl e ↦ absurd (let s = (Decides-eqb (i + 1) k).0 e in omega arith)
        | inr e ↦ sym (append-nil (firsts m i 1)) ∙ ap (λ (b : Bool). firsts m i 1 ++ cond b (st k) []) (sym e)
      ]

  shared : {X : Type 0} (b x : Bool) (xs ys zs : List X) →
      xs ++ cond b (ys ++ cond x zs []) [] ≡ (xs ++ cond b ys []) ++ cond (b && x) zs []
  shared true x xs ys zs = sym (append_assoc xs ys (cond x zs []))
  shared false x xs ys zs = append-nil xs ∙ sym (append-nil xs) ∙ sym (append-nil (xs ++ []))

  -- with one copy more, a state of an earlier copy has the edges to that copy more where it accepted
  edges-more : (k : ℕ) (s : ℕ × S) → s.0 < k →
      chain_edges m (suc k) s ≡ chain_edges m k s ++ cond ((chain_machine m k).accepts s) (st k) []
  edges-more k s lt =
      let left : suc k - suc s.0 ≡ suc (k - suc s.0) = omega arith in
      ap (λ (r : ℕ). map (renamed (λ q. (s.0, q))) (m.edges s.1) ++ cond (m.accepts s.1)
      (firsts m s.0 (later (m.accepts m.start) r)) []) left
      ∙ ap (λ (z : List (List Literal × (ℕ × S))). map (renamed (λ q. (s.0, q))) (m.edges s.1) ++ cond
      (m.accepts s.1) z [])
      (firsts-later (m.accepts m.start) s.0 (k - suc s.0) k (omega arith))
      ∙ shared (m.accepts s.1) (m.accepts m.start || eqb (s.0 + 1) k) (map (renamed (λ q. (s.0, q))) (m.edges s.1))
      (firsts m s.0 (later (m.accepts m.start) (k - suc s.0))) (st k)

  edges-last : (k : ℕ) (p : S) → chain_edges m (suc k) (k, p) ≡ map (renamed (λ q. (k, q))) (m.edges p)
  edges-last k p =
      let none : suc k - suc k ≡ 0 = omega arith in
      ap (λ (r : ℕ). map (renamed (λ q. (k, q))) (m.edges p) ++ cond (m.accepts p)
      (firsts m k (later (m.accepts m.start) r)) []) none
      ∙ nothing (m.accepts p) (map (renamed (λ q. (k, q))) (m.edges p))
    where
      nothing : {X : Type 0} (b : Bool) (xs : List X) → xs ++ cond b [] [] ≡ xs
      nothing true xs = append-nil xs
      nothing false xs = append-nil xs

  firsts-within : (i c : ℕ) (l : List Literal) (t : ℕ × S) → Among (firsts m i c) (l, t) → t.0 ≤ i + c
  firsts-within i zero l t h = absurd h
  firsts-within i (suc c) l t h =
      elim (Among-append (st (suc i)) (firsts m (suc i) c) (l, t) h) [
        | inl k ↦ let r = renamed_back (λ (q : S). (suc i, q)) (m.edges m.start) l t k in let s : suc i ≡ t.0 =
            ap (λ (z : ℕ × S). z.0) r.2 in omega arith
        | inr k ↦ let r = firsts-within (suc i) c l t k in omega (arith, r)
      ]

  pub if-among : {X : Type 0} (b : Bool) (xs : List X) (x : X) → Among (cond b xs []) x → Among xs x
  if-among true xs x h = h
  if-among false xs x h = absurd h

  pub chain-within : (k : ℕ) (s : ℕ × S) (l : List Literal) (t : ℕ × S) → s.0 < k → Among (chain_edges m k s) (l, t) →
      t.0 < k
  chain-within k s l t lt h =
      elim (Among-append (map (renamed (λ q. (s.0, q))) (m.edges s.1)) _ (l, t) h) [
        | inl z ↦ let r = renamed_back (λ (q : S). (s.0, q)) (m.edges s.1) l t z in let e : s.0 ≡ t.0 =
            ap (λ (z : ℕ × S). z.0) r.2 in omega arith
        | inr z ↦
            let r = firsts-within s.0 (later (m.accepts m.start) (k - suc s.0)) l t
            (if-among (m.accepts s.1) _ (l, t) z) in
            omega (arith, r, later_le (m.accepts m.start) (k - suc s.0))
      ]

  -- the earlier copies on the left, the last on the right
  abbrev pub split : ℕ → ℕ × S → Side (ℕ × S) S
  split k s = cond (nat_lt s.0 k) (Left s) (Right s.1)

  pub split-left : (k : ℕ) (s : ℕ × S) → s.0 < k → split k s ≡ Left s
  split-left k s lt = let e : nat_lt s.0 k ≡ true = grind (arith, nat_tests) in
      ap (λ (b : Bool). cond b (Left s) (Right s.1)) e

  pub split-right : (k : ℕ) (s : ℕ × S) → k ≤ s.0 → split k s ≡ Right s.1
  split-right k s le = let e : nat_lt s.0 k ≡ false = grind (arith, nat_tests) in
      ap (λ (b : Bool). cond b (Left s) (Right s.1)) e

  pub early_or_last : (i k : ℕ) → i < suc k → (i < k) ⊎ (i ≡ k)
  early_or_last i k lt = elim (told (nat_lt i k)) [
    | inl e ↦ inl (let f = e in grind (arith, nat_tests))
    | inr e ↦ inr (let f = e in grind (arith, nat_tests))
  ]

  split_different : (k : ℕ) (s t : ℕ × S) → s.0 < suc k → t.0 < suc k → split k s ≡ split k t → s ≡ t
  split_different k s t o p e =
      elim (early_or_last s.0 k o) [
        | inl lt ↦ elim (early_or_last t.0 k p) [
          | inl below ↦ left-same s t (sym (split-left k s lt) ∙ e ∙ split-left k t below)
          | inr last ↦ absurd (apart s t.1 (sym (split-left k s lt) ∙ e ∙ split-right k t (omega arith)))
        ]
        | inr last ↦ elim (early_or_last t.0 k p) [
          | inl below ↦ absurd (apart t s.1 (sym (split-left k t below) ∙ sym e ∙ split-right k s (omega arith)))
          | inr also ↦
              let same : s.1 ≡ t.1 = right-same {S = ℕ × S} s.1 t.1 (sym (split-right k s (omega arith)) ∙ e
              ∙ split-right k t (omega arith)) in
              let number : s.0 ≡ t.0 = last ∙ sym also in
              λ i. (number i, same i)
        ]
      ]
    where
      apart : (s : ℕ × S) (q : S) → ◌≡◌ {A = Side (ℕ × S) S} (Left s) (Right q) → ⊥
      apart s q e = cc

  both_or : (a e x y : Bool) → (y ≡ false) → a && (e || y) ≡ (a && (e || x)) && e
  both_or true true x y h = refl
  both_or true false true y h = h
  both_or true false false y h = h
  both_or false e x y h = refl

  split_accepts : (k : ℕ) (s : ℕ × S) → s.0 < suc k →
      (chain_machine m (suc k)).accepts s ≡ (concat_machine (chain_machine m k) m).accepts (split k s)
  split_accepts k s o =
      elim (early_or_last s.0 k o) [
        | inl lt ↦
            let not_last : eqb (s.0 + 1) (suc k) ≡ false = elim (told (eqb (s.0 + 1) (suc k))) [
              | inl h ↦ absurd (let g = (Decides-eqb (s.0 + 1) (suc k)).0 h in omega arith)
              | inr h ↦ h
            ] in
            both_or (m.accepts s.1) (m.accepts m.start) (eqb (s.0 + 1) k) (eqb (s.0 + 1) (suc k)) not_last
            ∙ ap (concat_machine (chain_machine m k) m).accepts (sym (split-left k s lt))
        | inr last ↦
            let is_last : eqb (s.0 + 1) (suc k) ≡ true = (Decides-eqb (s.0 + 1) (suc k)).1 (let h : s.0 + 1 ≡ suc k =
            omega arith in h) in
            ap (λ (b : Bool). m.accepts s.1 && (m.accepts m.start || b)) is_last
            ∙ always (m.accepts s.1) (m.accepts m.start)
            ∙ ap (concat_machine (chain_machine m k) m).accepts (sym (split-right k s (omega arith)))
      ]
    where
      always : (a e : Bool) → a && (e || true) ≡ a
      always true true = refl
      always true false = refl
      always false e = refl

  kept : (k : ℕ) (xs : List (List Literal × (ℕ × S))) → ((l : List Literal) (t : ℕ × S) → Among xs (l, t) → t.0 < k) →
      Maps (λ s. s.0 < suc k) (split k) xs (map (renamed (λ s. Left s)) xs)
  kept k xs within = record {
    owned = λ l t h. let lt = within l t h in omega (arith, lt);
    there = λ l t h.
        subst (λ (z : Side (ℕ × S) S). Among (map (renamed (λ s. Left s)) xs) (l, z))
        (sym (split-left k t (within l t h))) (renamed_there (λ (s : ℕ × S). Left s) xs l t h);
    back = λ l u h. let r = renamed_back (λ (s : ℕ × S). Left s) xs l u h in
        (r.0, r.1, split-left k r.0 (within l r.0 r.1) ∙ r.2);
  }

  last_maps : (k : ℕ) (p : S) →
      Maps (λ s. s.0 < suc k) (split k) (map (renamed (λ q. (k, q))) (m.edges p))
      (map (renamed (λ q. Right q)) (m.edges p))
  last_maps k p = maps_renamed (λ q. (k, q)) (λ q. Right q) (split k) (λ q o. omega arith) (λ q o. split-right k (
    k,
    q,
  ) (omega arith)) ((embeds_self m).steps p tt)

  early_steps : (k : ℕ) (s : ℕ × S) → s.0 < k →
      Maps (λ s. s.0 < suc k) (split k) (chain_edges m (suc k) s) ((concat_machine (chain_machine m k) m).edges
      (Left s))
  early_steps k s lt =
      subst (λ (z : List (List Literal × (ℕ × S))). Maps (λ s. s.0 < suc k) (split k) z
      ((concat_machine (chain_machine m k) m).edges (Left s))) (sym (edges-more k s lt))
      (maps_append (kept k (chain_edges m k s) (λ l t h. chain-within k s l t lt h))
      (maps_if ((chain_machine m k).accepts s) ((chain_machine m k).accepts s) (st k)
      (map (renamed (λ q. Right q)) (m.edges m.start)) refl (last_maps k m.start)))

  last_steps : (k : ℕ) (p : S) →
      Maps (λ s. s.0 < suc k) (split k) (chain_edges m (suc k) (
        k,
        p,
      )) ((concat_machine (chain_machine m k) m).edges (Right p))
  last_steps k p =
      subst (λ (z : List (List Literal × (ℕ × S))). Maps (λ s. s.0 < suc k) (split k) z
      ((concat_machine (chain_machine m k) m).edges (Right p))) (sym (edges-last k p)) (last_maps k p)

  pub split_embeds : (k : ℕ) → 0 < k →
      Embeds (λ s. s.0 < suc k) (chain_machine m (suc k)) (concat_machine (chain_machine m k) m) (split k)
  split_embeds k some = record {
    start = split-left k (0, m.start) some;
    owned = omega arith;
    different = split_different k;
    accepts = split_accepts k;
    steps = λ s o. elim (early_or_last s.0 k o) [
      | inl lt ↦ subst (λ (z : Side (ℕ × S) S). Maps (λ s. s.0 < suc k) (split k) (chain_edges m (suc k) s)
          ((concat_machine (chain_machine m k) m).edges z)) (sym (split-left k s lt)) (early_steps k s lt)
      | inr last ↦
          subst (λ (z : Side (ℕ × S) S). Maps (λ s. s.0 < suc k) (split k) (chain_edges m (suc k) s)
          ((concat_machine (chain_machine m k) m).edges z)) (sym (split-right k s (omega arith)))
          (subst (λ (j : ℕ). Maps (λ s. s.0 < suc k) (split k) (chain_edges m (suc k) (
            j,
            s.1,
          )) ((concat_machine (chain_machine m k) m).edges (Right s.1))) (sym last) (last_steps k s.1))
    ];
  }

  -- ---- one copy alone

  pub one_copy : Embeds (λ s. s.0 < 1) (chain_machine m 1) m (λ s. s.1)
  one_copy = record {
    start = refl;
    owned = omega arith;
    different = λ s t o p e. let z : s.0 ≡ t.0 = omega arith in λ i. (z i, e i);
    accepts = λ s o.
        let is_last : eqb (s.0 + 1) 1 ≡ true = (Decides-eqb (s.0 + 1) 1).1 (let h : s.0 + 1 ≡ 1 = omega arith in h) in
        ap (λ (b : Bool). m.accepts s.1 && (m.accepts m.start || b)) is_last
        ∙ always (m.accepts s.1) (m.accepts m.start);
    steps = λ s o.
        let z : 0 ≡ s.0 = omega arith in
        subst (λ (j : ℕ). Maps {S = ℕ × S} (λ s. s.0 < 1) (λ s. s.1) (chain_edges m 1 (j, s.1)) (m.edges s.1)) z
        (subst (λ (z : List (List Literal × (ℕ × S))). Maps {S =
        ℕ × S} (λ s. s.0 < 1) (λ s. s.1) z (m.edges s.1)) (sym (edges-last 0 s.1)) (only s.1));
  }
    where
      always : (a e : Bool) → a && (e || true) ≡ a
      always true true = refl
      always true false = refl
      always false e = refl

      only : (p : S) → Maps {S = ℕ × S} (λ s. s.0 < 1) (λ s. s.1) (map (renamed (λ q. (0, q))) (m.edges p)) (m.edges p)
      only p = record {
        owned = λ l t h. let r = renamed_back (λ (q : S). (0, q)) (m.edges p) l t h in let e : 0 ≡ t.0 =
            ap (λ (z : ℕ × S). z.0) r.2 in omega arith;
        there = λ l t h.
            let r = renamed_back (λ (q : S). (0, q)) (m.edges p) l t h in
            let e : r.0 ≡ t.1 = ap (λ (z : ℕ × S). z.1) r.2 in
            subst (λ (q : S). Among (m.edges p) (l, q)) e r.1;
        back = λ l u h. ((0, u), renamed_there (λ (q : S). (0, q)) (m.edges p) l u h, refl);
      }
