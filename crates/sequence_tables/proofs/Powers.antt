-- A number of copies of a part of a place graph is part of that of the sequence's copies.
use Rattle.std.proofs.Common.{◌↔◌, sym, ap, subst, ℕ, zero, suc, ◌-◌, ◌<◌, List, map, inl, inr, arith}
use Rattle.psl_model.specs.Expr.{Expr}
use Rattle.psl_meaning.specs.Sequence.{CoreSere}
use Rattle.psl_meaning.specs.SequenceSugar.{copies}
use Rattle.sequence_cores.specs.PlaceGraph.{Place}
use Rattle.auto_core.specs.declared.labels.Literal.{Literal}
use Rattle.auto_core.specs.Edges.{renamed}
use Rattle.auto_core.specs.Machine.{Machine, Letter, Accepts}
use Rattle.auto_core.specs.Splits.{IsConcatenation}
use Rattle.automata_product.specs.Sides.{OfSides}
use Rattle.sere_automata.specs.Concat.{concat_machine}
use Rattle.sequence_tables.specs.inner.Copies.{later, firsts, chain_edges, chain_machine}
use Rattle.sequence_tables.proofs.Chains.{split, split-left, split-right, split_embeds, one_copy, early_or_last}
use Rattle.sequence_tables.proofs.Chains.{chain-within, if-among}
use Rattle.sequence_tables.proofs.Embeds.{Embeds, same_words}
use Rattle.sequence_tables.proofs.Forms.{InPlaces, sides, concat_into}
use Rattle.sequence_tables.proofs.Into.{into_through}
use Rattle.sequence_tables.proofs.Maps.{renamed_back}
use Rattle.sequence_tables.proofs.Members.{Among, Among-append}

-- a state of one of the copies, which is the part's own
abbrev pub OwnCopy : {S : Type 0} → (S → Type 0) → ℕ → ℕ × S → Type 0
OwnCopy own k s = (s.0 < k) × own s.1

module _ {S : Type 0} (m : Machine S) (own : S → Type 0) (begins : own m.start)
    (closed : (s : S) → own s → (l : List Literal) (t : S) → Among (m.edges s) (l, t) → own t) where
  firsts-owned : (i c : ℕ) (l : List Literal) (t : ℕ × S) → Among (firsts m i c) (l, t) → own t.1
  firsts-owned i zero l t h = absurd h
  firsts-owned i (suc c) l t h =
      elim (Among-append (map (renamed (λ (q : S). (suc i, q))) (m.edges m.start)) (firsts m (suc i) c) (l, t) h) [
        | inl k ↦
            let r = renamed_back (λ (q : S). (suc i, q)) (m.edges m.start) l t k in
            subst own (ap (λ (z : ℕ × S). z.1) r.2) (closed m.start begins l r.0 r.1)
        | inr k ↦ firsts-owned (suc i) c l t k
      ]

  chain-owned : (k : ℕ) (s : ℕ × S) (l : List Literal) (t : ℕ × S) → OwnCopy own k s →
      Among (chain_edges m k s) (l, t) → OwnCopy own k t
  chain-owned k s l t o h = (
    chain-within m k s l t o.0 h,
    elim (Among-append (map (renamed (λ (q : S). (s.0, q))) (m.edges s.1)) _ (l, t) h) [
      | inl z ↦
          let r = renamed_back (λ (q : S). (s.0, q)) (m.edges s.1) l t z in
          subst own (ap (λ (z : ℕ × S). z.1) r.2) (closed s.1 o.1 l r.0 r.1)
      | inr z ↦
          firsts-owned s.0 (later (m.accepts m.start) (k - suc s.0)) l t (if-among m (m.accepts s.1) _ (l, t) z)
    ],
  )

  pub narrowed : {T : Type 0} {n : Machine T} {f : ℕ × S → T} (k : ℕ) → 0 < k →
      Embeds (λ s. s.0 < k) (chain_machine m k) n f → Embeds (OwnCopy own k) (chain_machine m k) n f
  narrowed k some e = record {
    start = e.start;
    owned = (some, begins);
    different = λ s t o p same. e.different s t o.0 p.0 same;
    accepts = λ s o. e.accepts s o.0;
    steps = λ s o. record {
      owned = λ l t h. chain-owned k s l t o h;
      there = λ l t h. (e.steps s o.0).there l t h;
      back = λ l u h. (e.steps s o.0).back l u h;
    };
  }

module _ (label : Expr → List Literal) {S : Type 0} {own : S → Type 0} {m : Machine S} {f : S → Place} (r : CoreSere)
    (a : InPlaces label own m r f) where
  closed : (s : S) → own s → (l : List Literal) (t : S) → Among (m.edges s) (l, t) → own t
  closed s o l t h = (a.steps s o).owned l t h

  split_own : (k : ℕ) (s : ℕ × S) → OwnCopy own (suc k) s → OfSides (OwnCopy own k) own (split m k s)
  split_own k s o = elim (early_or_last m s.0 k o.0) [
    | inl lt ↦ subst (OfSides (OwnCopy own k) own) (sym (split-left m k s lt)) (lt, o.1)
    | inr last ↦ subst (OfSides (OwnCopy own k) own) (sym (split-right m k s (omega arith))) o.1
  ]

  abbrev pub unrolled : ℕ → ℕ × S → Place
  unrolled zero s = f s.1
  unrolled (suc k) s = sides (unrolled k) f (split m (suc k) s)

  pub copies_into : (k : ℕ) →
      InPlaces label (OwnCopy own (suc k)) (chain_machine m (suc k)) (copies (suc k) r) (unrolled k)
  copies_into zero =
      into_through (λ s. s.1) f (λ s o. o.1) (narrowed m own a.owned closed 1 (omega arith) (one_copy m)) a
  copies_into (suc k) =
      into_through (split m (suc k)) (sides (unrolled k) f) (split_own (suc k))
      (narrowed m own a.owned closed (suc (suc k)) (omega arith) (split_embeds m (suc k) (omega arith)))
      (concat_into label (copies (suc k) r) r (copies_into k) a)

-- ---- words

module _ {S : Type 0} (m : Machine S) where
  pub one_copy_words : (w : List Letter) → Accepts (chain_machine m 1) w ↔ Accepts m w
  one_copy_words w = same_words (λ s. s.1) (one_copy m) w

  pub more_copies_words :
      ((n : Machine (ℕ × S)) (w : List Letter) →
      Accepts (concat_machine n m) w ↔ IsConcatenation (Accepts n) (Accepts m) w) →
      (k : ℕ) (w : List Letter) →
      Accepts (chain_machine m (suc (suc k))) w ↔ IsConcatenation (Accepts (chain_machine m (suc k))) (Accepts m) w
  more_copies_words law k w =
      let same = same_words (split m (suc k)) (split_embeds m (suc k) (omega arith)) w in
      let joined = law (chain_machine m (suc k)) w in
      ((λ h. joined.0 (same.0 h)), (λ h. same.1 (joined.1 h)))
