-- Lists of edges that are the steps of a relation, under a renaming of their targets.
use Rattle.std.specs.Prelude.{flat_map}
use Rattle.std.proofs.Common.{◌≡◌, ◌∙◌, refl, sym, ap, subst, Bool, true, false, cond, IsTrue, List, [], ◌∷◌, ◌++◌, map}
use Rattle.std.proofs.Common.{filter, inl, inr, ◌⊎◌}
use Rattle.auto_core.specs.declared.labels.Literal.{Literal}
use Rattle.auto_core.specs.Edges.{renamed, products, joined_edge}
use Rattle.auto_core.specs.LiteralSets.{put_all}
use Rattle.sequence_tables.proofs.Members.{Among, Among-append, Among-left, Among-right, Among-filter}
use Rattle.sequence_tables.proofs.Members.{Among-filter_back, Among-map, map-Among}
use Rattle.sequence_tables.proofs.Maps.{renamed_there, renamed_back}

-- the targets of the list are its own states, and P has the renamed edges and no others
pub record Leads {S T : Type 0} (own : S → Type 0) (f : S → T) (xs : List (List Literal × S))
    (P : List Literal → T → Type 0) : Type 0 where
  pub owned : (l : List Literal) (t : S) → Among xs (l, t) → own t
  pub there : (l : List Literal) (t : S) → Among xs (l, t) → P l (f t)
  pub back : (l : List Literal) (u : T) → P l u → (t : S) × Among xs (l, t) × (f t ≡ u)

module _ {S T : Type 0} {own : S → Type 0} {f : S → T} where
  pub leads_nil : Leads own f [] (λ l u. ⊥)
  leads_nil = record { owned = λ l t k. absurd k; there = λ l t k. k; back = λ l u k. absurd k }

  pub leads_same : {xs : List (List Literal × S)} {P Q : List Literal → T → Type 0} →
      ((l : List Literal) (u : T) → P l u → Q l u) → ((l : List Literal) (u : T) → Q l u → P l u) →
      Leads own f xs P → Leads own f xs Q
  leads_same to from m = record {
    owned = m.owned;
    there = λ l t k. to l (f t) (m.there l t k);
    back = λ l u k. m.back l u (from l u k);
  }

  pub leads_append : {xs ys : List (List Literal × S)} {P Q : List Literal → T → Type 0} →
      Leads own f xs P → Leads own f ys Q → Leads own f (xs ++ ys) (λ l u. P l u ⊎ Q l u)
  leads_append {xs} {ys} m n = record {
    owned = λ l t k. elim (Among-append xs ys (l, t) k) [ inl h ↦ m.owned l t h | inr h ↦ n.owned l t h ];
    there = λ l t k. elim (Among-append xs ys (l, t) k) [ inl h ↦ inl (m.there l t h) | inr h ↦ inr (n.there l t h) ];
    back = λ l u k. elim k [
      | inl h ↦ let b = m.back l u h in (b.0, Among-left xs ys (l, b.0) b.1, b.2)
      | inr h ↦ let b = n.back l u h in (b.0, Among-right xs ys (l, b.0) b.1, b.2)
    ];
  }

  pub leads_if : (b c : Bool) (xs : List (List Literal × S)) (P : List Literal → T → Type 0) → b ≡ c →
      Leads own f xs P → Leads own f (cond b xs []) (λ l u. IsTrue c × P l u)
  leads_if true c xs P e m = record {
    owned = m.owned;
    there = λ l t k. (sym e, m.there l t k);
    back = λ l u h. m.back l u h.1;
  }
  leads_if false c xs P e m = record {
    owned = λ l t k. absurd k;
    there = λ l t k. absurd k;
    back = λ l u h. absurd (let g : false ≡ true = e ∙ h.0 in cc);
  }

  pub leads_filter : (p : S → Bool) (q : T → Bool) (xs : List (List Literal × S)) (P : List Literal → T → Type 0) →
      ((s : S) → own s → p s ≡ q (f s)) →
      Leads own f xs P → Leads own f (filter (λ x. p x.1) xs) (λ l u. P l u × IsTrue (q u))
  leads_filter p q xs P same m = record {
    owned = λ l t k. m.owned l t (Among-filter (λ x. p x.1) xs (l, t) k).0;
    there = λ l t k.
        let r = Among-filter (λ x. p x.1) xs (l, t) k in
        (m.there l t r.0, sym (same t (m.owned l t r.0)) ∙ r.1);
    back = λ l u k.
        let b = m.back l u k.0 in
        let kept : p b.0 ≡ true = same b.0 (m.owned l b.0 b.1) ∙ ap q b.2 ∙ k.1 in
        (b.0, Among-filter_back (λ x. p x.1) xs (l, b.0) b.1 kept, b.2);
  }

module _ {S T U V : Type 0} {own : S → Type 0} {owns : U → Type 0} {f : S → T} {xs : List (List Literal × S)}
    {P : List Literal → T → Type 0} where
  pub leads_renamed : (put : S → U) (onto : T → V) (h : U → V) →
      ((s : S) → own s → owns (put s)) → ((s : S) → h (put s) ≡ onto (f s)) → Leads own f xs P →
      Leads owns h (map (renamed put) xs) (λ l v. (u : T) × P l u × (onto u ≡ v))
  leads_renamed put onto h into square m = record {
    owned = λ l u k. let r = renamed_back put xs l u k in subst owns r.2 (into r.0 (m.owned l r.0 r.1));
    there = λ l u k.
        let r = renamed_back put xs l u k in
        (f r.0, m.there l r.0 r.1, sym (square r.0) ∙ ap h r.2);
    back = λ l v k.
        let b = m.back l k.0 k.1 in
        (put b.0, renamed_there put xs l b.0 b.1, square b.0 ∙ ap onto b.2 ∙ k.2);
  }

Among-flat_map : {X Y : Type 0} (f : X → List Y) (xs : List X) (x : X) (y : Y) →
    Among xs x → Among (f x) y → Among (flat_map f xs) y
Among-flat_map f [] x y h k = absurd h
Among-flat_map f (z ∷ xs) x y (inl e) k =
    Among-left (f z) (flat_map f xs) y (subst (λ (w : _). Among (f w) y) (sym e) k)
Among-flat_map f (z ∷ xs) x y (inr h) k = Among-right (f z) (flat_map f xs) y (Among-flat_map f xs x y h k)

flat_map-Among : {X Y : Type 0} (f : X → List Y) (xs : List X) (y : Y) →
    Among (flat_map f xs) y → (x : X) × Among xs x × Among (f x) y
flat_map-Among f [] y h = absurd h
flat_map-Among f (x ∷ xs) y h =
    elim (Among-append (f x) (flat_map f xs) y h) [
      | inl k ↦ (x, inl refl, k)
      | inr k ↦ let r = flat_map-Among f xs y k in (r.0, inr r.1, r.2)
    ]

module _ {S T U : Type 0} (f : S → T → U) (xs : List (List Literal × S)) (ys : List (List Literal × T)) where
  abbrev row : List Literal × S → List (List Literal × U)
  row x = map (λ y. joined_edge f x y) ys

  products_there : (x : List Literal × S) (y : List Literal × T) → Among xs x → Among ys y →
      Among (products f xs ys) (joined_edge f x y)
  products_there x y h k =
      Among-flat_map row xs x (joined_edge f x y) h (Among-map (λ y. joined_edge f x y) ys y k)

  pub products_back : (z : List Literal × U) → Among (products f xs ys) z →
      (x : List Literal × S) × (y : List Literal × T) × Among xs x × Among ys y × (joined_edge f x y ≡ z)
  products_back z h =
      let r = flat_map-Among row xs z h in
      let s = map-Among (λ y. joined_edge f r.0 y) ys z r.2 in
      (r.0, s.0, r.1, s.1, s.2)

-- a step of the one and a step of the other, with the literals of both and a target made of both
abbrev pub Joined : {S T U : Type 0} → (List Literal → S → Type 0) → (List Literal → T → Type 0) → (S → T → U) →
    List Literal → U → Type 0
Joined {S} {T} P Q onto l v =
    (y : List Literal) × (z : List Literal) × (p : S) × (q : T) × P y p × Q z q × (l ≡ put_all z y) × (onto p q ≡ v)

-- each edge of the one list with each of the other
module _ {S T U S' T' U' : Type 0} {own : S → Type 0} {owns : T → Type 0} {owned : U → Type 0} {f : S → S'}
    {g : T → T'} {xs : List (List Literal × S)} {P : List Literal → S' → Type 0} {ys : List (List Literal × T)}
    {Q : List Literal → T' → Type 0} where
  pub leads_products : (put : S → T → U) (onto : S' → T' → U') (h : U → U') →
      ((s : S) (t : T) → own s → owns t → owned (put s t)) →
      ((s : S) (t : T) → h (put s t) ≡ onto (f s) (g t)) → Leads own f xs P → Leads owns g ys Q →
      Leads owned h (products put xs ys) (Joined P Q onto)
  leads_products put onto h into square m n = record {
    owned = λ l u k.
        let r = cases l u k in
        subst owned r.5 (into r.0.1 r.1.1 (m.owned r.0.0 r.0.1 r.2) (n.owned r.1.0 r.1.1 r.3));
    there = λ l u k.
        let r = cases l u k in (
          r.0.0,
          r.1.0,
          f r.0.1,
          g r.1.1,
          m.there r.0.0 r.0.1 r.2,
          n.there r.1.0 r.1.1 r.3,
          sym r.4,
          sym (square r.0.1 r.1.1) ∙ ap h r.5,
        );
    back = λ l v k.
        let a = m.back k.0 k.2 k.4 in
        let b = n.back k.1 k.3 k.5 in
        let here : Among (products put xs ys) (put_all k.1 k.0, put a.0 b.0) =
        products_there put xs ys (k.0, a.0) (k.1, b.0) a.1 b.1 in
        let same : h (put a.0 b.0) ≡ v =
        square a.0 b.0 ∙ ap (λ (z : S'). onto z (g b.0)) a.2 ∙ ap (λ (z : T'). onto k.2 z) b.2 ∙ k.7 in
        (put a.0 b.0, subst (λ (w : List Literal). Among (products put xs ys) (w, put a.0 b.0)) (sym k.6) here, same);
  }
    where
      cases : (l : List Literal) (u : U) → Among (products put xs ys) (l, u) →
          (x : List Literal × S) × (y : List Literal × T) × Among xs x × Among ys y × (put_all y.0 x.0 ≡ l)
          × (put x.1 y.1 ≡ u)
      cases l u k =
          let r = products_back put xs ys (l, u) k in
          (r.0, r.1, r.2, r.3, ap (λ (e : List Literal × U). e.0) r.4, ap (λ (e : List Literal × U). e.1) r.4)
