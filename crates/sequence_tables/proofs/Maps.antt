-- Lists of edges that correspond under a renaming of their targets.
use Rattle.std.proofs.Common.{◌≡◌, ◌∙◌, sym, ap, subst, Bool, true, false, cond, List, [], ◌++◌, map, inl}
use Rattle.std.proofs.Common.{inr}
use Rattle.auto_core.specs.declared.labels.Literal.{Literal}
use Rattle.sequence_tables.proofs.Members.{Among, Among-append, Among-left, Among-right}
use Rattle.sequence_tables.proofs.Members.{Among-map, map-Among}
use Rattle.auto_core.specs.Edges.{renamed}

-- the targets of the first list are its own states, and the second list has the renamed edges and no others
pub record Maps {S T : Type 0} (own : S → Type 0) (f : S → T) (xs : List (List Literal × S)) (ys : List (List Literal
    × T)) : Type 0 where
  pub owned : (l : List Literal) (t : S) → Among xs (l, t) → own t
  pub there : (l : List Literal) (t : S) → Among xs (l, t) → Among ys (l, f t)
  pub back : (l : List Literal) (u : T) → Among ys (l, u) → (t : S) × Among xs (l, t) × (f t ≡ u)

pub renamed_there : {S U : Type 0} (f : S → U) (xs : List (List Literal × S)) (l : List Literal) (t : S) →
    Among xs (l, t) → Among (map (renamed f) xs) (l, f t)
renamed_there f xs l t h = Among-map (renamed f) xs (l, t) h

pub renamed_back : {S U : Type 0} (f : S → U) (xs : List (List Literal × S)) (l : List Literal) (u : U) →
    Among (map (renamed f) xs) (l, u) → (t : S) × Among xs (l, t) × (f t ≡ u)
renamed_back f xs l u h =
    let r = map-Among (renamed f) xs (l, u) h in (
      r.0.1,
      subst (λ (k : List Literal). Among xs (k, r.0.1)) (ap (λ (e : List Literal × _). e.0) r.2) r.1,
      ap (λ (e : List Literal × _). e.1) r.2,
    )

module _ {S T U V : Type 0} {own : S → Type 0} {owns : U → Type 0} {f : S →
    T} {xs : List (List Literal × S)} {ys : List (List Literal × T)} where
  pub maps_renamed : (inj : S → U) (onto : T → V) (h : U → V) → ((s : S) → own s → owns (inj s)) →
      ((s : S) → own s → h (inj s) ≡ onto (f s)) → Maps own f xs ys →
      Maps owns h (map (renamed inj) xs) (map (renamed onto) ys)
  maps_renamed inj onto h into square m = record {
    owned = λ l u k. let r = renamed_back inj xs l u k in subst owns r.2 (into r.0 (m.owned l r.0 r.1));
    there = λ l u k.
        let r = renamed_back inj xs l u k in
        subst (λ (z : V). Among (map (renamed onto) ys) (l, z)) (sym (square r.0 (m.owned l r.0 r.1))
        ∙ ap h r.2) (renamed_there onto ys l (f r.0) (m.there l r.0 r.1));
    back = λ l v k.
        let r = renamed_back onto ys l v k in
        let b = m.back l r.0 r.1 in
        (inj b.0, renamed_there inj xs l b.0 b.1, square b.0 (m.owned l b.0 b.1) ∙ ap onto b.2 ∙ r.2);
  }

module _ {S T : Type 0} {own : S → Type 0} {f : S → T} where
  pub maps_nil : Maps own f [] []
  maps_nil = record { owned = λ l t k. absurd k; there = λ l t k. k; back = λ l u k. absurd k }

  pub maps_append : {xs xs' : List (List Literal × S)} {ys ys' : List (List Literal × T)} → Maps own f xs ys →
      Maps own f xs' ys' → Maps own f (xs ++ xs') (ys ++ ys')
  maps_append {xs} {xs'} {ys} {ys'} m n = record {
    owned = λ l t k. elim (Among-append xs xs' (l, t) k) [ inl h ↦ m.owned l t h | inr h ↦ n.owned l t h ];
    there = λ l t k. elim (Among-append xs xs' (l, t) k) [
      | inl h ↦ Among-left ys ys' (l, f t) (m.there l t h)
      | inr h ↦ Among-right ys ys' (l, f t) (n.there l t h)
    ];
    back = λ l u k. elim (Among-append ys ys' (l, u) k) [
      | inl h ↦ let b = m.back l u h in (b.0, Among-left xs xs' (l, b.0) b.1, b.2)
      | inr h ↦ let b = n.back l u h in (b.0, Among-right xs xs' (l, b.0) b.1, b.2)
    ];
  }

  maps_cond : (b : Bool) {xs : List (List Literal × S)} {ys : List (List Literal × T)} → Maps own f xs ys →
      Maps own f (cond b xs []) (cond b ys [])
  maps_cond true m = m
  maps_cond false m = maps_nil

  pub maps_if : (b c : Bool) (xs : List (List Literal × S)) (ys : List (List Literal × T)) → b ≡ c → Maps own f xs ys →
      Maps own f (cond b xs []) (cond c ys [])
  maps_if b c xs ys e m = subst (λ (d : Bool). Maps own f (cond b xs []) (cond d ys [])) e (maps_cond b m)
