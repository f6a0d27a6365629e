-- Places in lists, where a test decides which elements are equal.
use Rattle.std.proofs.Common.{◌≡◌, ◌≢◌, ◌⊎◌, ℕ, zero, suc, ◌+◌, ◌<◌, Bool, true, false, not, cond, ◌||◌, List, []}
use Rattle.std.proofs.Common.{◌∷◌, ◌++◌, length, get_or, slice_get, Some, None, position, Contains, AllPairs}
use Rattle.std.proofs.Common.{inl, inr, refl, sym, ap, subst, ◌∙◌, true≢false, lt-ltb, ltb-true, ltb, map, arith}
use Rattle.std.specs.Bool.{Decides}
use Rattle.std.specs.List.{list_any, position_or_len}
use Rattle.std.proofs.lemmas.Bool.{cases_Bool}
use Rattle.std.proofs.lemmas.List.Quantifiers.{all_pairs_push}

-- membership by recursion on the list
abbrev Among : {X : Type 0} → List X → X → Type 0
Among [] x = ⊥
Among (y ∷ ys) x = (y ≡ x) ⊎ Among ys x

module _ {X : Type 0} where
  Contains-from_Among : (xs : List X) (x : X) → Among xs x → Contains xs x
  Contains-from_Among [] x h = absurd h
  Contains-from_Among (y ∷ ys) x (inl e) = (0, omega arith, e)
  Contains-from_Among (y ∷ ys) x (inr h) = let (k, lt, e) = Contains-from_Among ys x h in (suc k, omega arith, e)

  Among-get_or : (xs : List X) (k : ℕ) (x : X) → k < length xs → get_or xs k x ≡ x → Among xs x
  Among-get_or [] k x lt e = absurd (omega arith)
  Among-get_or (y ∷ ys) zero x lt e = inl e
  Among-get_or (y ∷ ys) (suc k) x lt e = inr (Among-get_or ys k x (omega arith) e)

  Among-from_Contains : (xs : List X) (x : X) → Contains xs x → Among xs x
  Among-from_Contains xs x h = Among-get_or xs h.0 x h.1 h.2

  pub different_push : (xs : List X) (x : X) → AllPairs (λ a b. a ≢ b) xs → (Contains xs x → ⊥) →
      AllPairs (λ a b. a ≢ b) (xs ++ x ∷ [])
  different_push xs x all out = all_pairs_push (λ a b. a ≢ b) xs x all
      (λ k d lt e. out (k, lt, at xs k d x lt e))
    where
      at : (ys : List X) (k : ℕ) (d y : X) → k < length ys → get_or ys k d ≡ y → get_or ys k y ≡ y
      at [] k d y lt e = absurd (omega arith)
      at (z ∷ ys) zero d y lt e = e
      at (z ∷ ys) (suc k) d y lt e = at ys k d y (omega arith) e

module _ {X : Type 0} (eq : X → X → Bool) (decides : (x y : X) → Decides (eq x y) (x ≡ y)) where
  any-Among : (xs : List X) (x : X) → list_any (eq x) xs ≡ true → Among xs x
  any-Among [] x h = absurd (true≢false (sym h))
  any-Among (y ∷ xs) x h =
      elim (cases_Bool (eq x y)) [
        | inl e ↦ inl (sym ((decides x y).0 e))
        | inr e ↦ inr (any-Among xs x (sym (ap (λ (b : Bool). b || list_any (eq x) xs) e) ∙ h))
      ]

  Among-any : (xs : List X) (x : X) → Among xs x → list_any (eq x) xs ≡ true
  Among-any [] x h = absurd h
  Among-any (y ∷ xs) x (inl e) = ap (λ (b : Bool). b || list_any (eq x) xs) ((decides x y).1 (sym e))
  Among-any (y ∷ xs) x (inr h) =
      elim (cases_Bool (eq x y)) [
        | inl e ↦ ap (λ (b : Bool). b || list_any (eq x) xs) e
        | inr e ↦ ap (λ (b : Bool). b || list_any (eq x) xs) e ∙ Among-any xs x h
      ]

  pub any_there : (xs : List X) (x : X) → list_any (eq x) xs ≡ true → Contains xs x
  any_there xs x h = Contains-from_Among xs x (any-Among xs x h)

  pub there_any : (xs : List X) (x : X) → Contains xs x → list_any (eq x) xs ≡ true
  there_any xs x h = Among-any xs x (Among-from_Contains xs x h)

  pub absent_any : (xs : List X) (x : X) → (Contains xs x → ⊥) → list_any (eq x) xs ≡ false
  absent_any xs x out = elim (cases_Bool (list_any (eq x) xs)) [ inl e ↦ absurd (out (any_there xs x e)) | inr e ↦ e ]

  place-here : (y x : X) (xs : List X) → eq x y ≡ true → position_or_len (eq x) (y ∷ xs) ≡ 0
  place-here y x xs e = ap (λ (b : Bool). cond (not b) (1 + position_or_len (eq x) xs) 0) e

  place-next : (y x : X) (xs : List X) → eq x y ≡ false → position_or_len (eq x) (y ∷ xs) ≡ suc
      (position_or_len (eq x) xs)
  place-next y x xs e = ap (λ (b : Bool). cond (not b) (1 + position_or_len (eq x) xs) 0) e
      ∙ (let f : 1 + position_or_len (eq x) xs ≡ suc (position_or_len (eq x) xs) = omega arith in f)

  place-Among : (xs : List X) (x : X) → Among xs x → (position_or_len (eq x) xs < length xs) ×
      (slice_get xs (position_or_len (eq x) xs) ≡ Some x)
  place-Among [] x h = absurd h
  place-Among (y ∷ xs) x h =
      elim (cases_Bool (eq x y)) [
        | inl e ↦ (
          let f = place-here y x xs e in omega arith,
          ap (slice_get (y ∷ xs)) (place-here y x xs e)
              ∙ ap (λ (z : X). Some z) (sym ((decides x y).0 e)),
        )
        | inr e ↦ elim h [
          | inl f ↦ absurd (true≢false (sym ((decides x y).1 (sym f)) ∙ e))
          | inr f ↦ let r : (position_or_len (eq x) xs < length xs) ×
              (slice_get xs (position_or_len (eq x) xs) ≡ Some x) = place-Among xs x f in
              (let g = place-next y x xs e in omega (arith, r.0), ap (slice_get (y ∷ xs)) (place-next y x xs e) ∙ r.1)
        ]
      ]

  -- an element of the list stands at its place
  pub at_place : (xs : List X) (x : X) → Contains xs x → (position_or_len (eq x) xs < length xs) ×
      (slice_get xs (position_or_len (eq x) xs) ≡ Some x)
  at_place xs x h = place-Among xs x (Among-from_Contains xs x h)

  place-more : (xs ys : List X) (x : X) → Among xs x →
      position_or_len (eq x) (xs ++ ys) ≡ position_or_len (eq x) xs
  place-more [] ys x h = absurd h
  place-more (y ∷ xs) ys x h =
      elim (cases_Bool (eq x y)) [
        | inl e ↦ place-here y x (xs ++ ys) e ∙ sym (place-here y x xs e)
        | inr e ↦ elim h [
          | inl f ↦ absurd (true≢false (sym ((decides x y).1 (sym f)) ∙ e))
          | inr f ↦ place-next y x (xs ++ ys) e ∙ ap suc (place-more xs ys x f) ∙ sym (place-next y x xs e)
        ]
      ]

  -- and its place stays where more elements follow
  pub place_stays : (xs ys : List X) (x : X) → Contains xs x →
      position_or_len (eq x) (xs ++ ys) ≡ position_or_len (eq x) xs
  place_stays xs ys x h = place-more xs ys x (Among-from_Contains xs x h)

  -- an element that is put at the end has the next place
  pub place_at_end : (xs : List X) (x : X) → (Contains xs x → ⊥) → position_or_len (eq x) (xs ++ x ∷ []) ≡ length xs
  place_at_end xs x out = by_cases xs x (λ h. out (Contains-from_Among xs x h))
    where
      by_cases : (xs : List X) (x : X) → (Among xs x → ⊥) → position_or_len (eq x) (xs ++ x ∷ []) ≡ length xs
      by_cases [] x out = place-here x x [] ((decides x x).1 refl)
      by_cases (y ∷ xs) x out =
          elim (cases_Bool (eq x y)) [
            | inl e ↦ absurd (out (inl (sym ((decides x y).0 e))))
            | inr e ↦ place-next y x (xs ++ x ∷ []) e ∙ ap suc (by_cases xs x (λ f. out (inr f)))
          ]

  -- what `position` finds is in the list
  pub found_any : (xs : List X) (x : X) (i : ℕ) → position (eq x) xs ≡ Some i → list_any (eq x) xs ≡ true
  found_any xs x i e = elim (cases_Bool (list_any (eq x) xs)) [ inl h ↦ h | inr h ↦ absurd (lost xs x i h e) ]
    where
      no_place : (xs : List X) (x : X) → list_any (eq x) xs ≡ false → position_or_len (eq x) xs ≡ length xs
      no_place [] x h = refl
      no_place (y ∷ xs) x h =
          elim (cases_Bool (eq x y)) [
            | inl e ↦ absurd (true≢false (sym (ap (λ (b : Bool). b || list_any (eq x) xs) e) ∙ h))
            | inr e ↦ place-next y x xs e
                ∙ ap suc (no_place xs x (sym (ap (λ (b : Bool). b || list_any (eq x) xs) e) ∙ h))
          ]

      lost-at : (n : ℕ) (i : ℕ) (b : Bool) → ltb n n ≡ b → cond b (Some n) None ≡ Some i → ⊥
      lost-at n i true t e = absurd (omega (arith, ltb-true n n t))
      lost-at n i false t e = cc

      lost : (xs : List X) (x : X) (i : ℕ) → list_any (eq x) xs ≡ false → position (eq x) xs ≡ Some i → ⊥
      lost xs x i h e = lost-at (length xs) i (ltb (length xs) (length xs)) refl
          (subst (λ (n : ℕ). cond (ltb n (length xs)) (Some n) None ≡ Some i) (no_place xs x h) e)

  pub not_found : (xs : List X) (x : X) → position (eq x) xs ≡ None → Contains xs x → ⊥
  not_found xs x e h =
      let lt : ltb (position_or_len (eq x) xs) (length xs) ≡ true = lt-ltb _ _ (at_place xs x h).0 in
      let f : cond true (Some (position_or_len (eq x) xs)) None ≡ None =
      subst (λ (b : Bool). cond b (Some (position_or_len (eq x) xs)) None ≡ None) lt e in
      absurd (cc)

-- ---- read through a function

module _ {X Y : Type 0} (f : X → Y) (p : Y → Bool) where
  any-map : (xs : List X) → list_any p (map f xs) ≡ list_any (λ x. p (f x)) xs
  any-map [] = refl
  any-map (x ∷ xs) = ap (λ (b : Bool). p (f x) || b) (any-map xs)

  place-map : (xs : List X) → position_or_len p (map f xs) ≡ position_or_len (λ x. p (f x)) xs
  place-map [] = refl
  place-map (x ∷ xs) = ap (λ (n : ℕ). cond (not (p (f x))) (1 + n) 0) (place-map xs)

  length_of_map : (xs : List X) → length (map f xs) ≡ length xs
  length_of_map [] = refl
  length_of_map (x ∷ xs) = ap suc (length_of_map xs)

  pub position_of_map : (xs : List X) → position (λ x. p (f x)) xs ≡ position p (map f xs)
  position_of_map xs = λ i. let n = place-map xs in let m = length_of_map xs in
      cond (ltb (sym n i) (sym m i)) (Some (sym n i)) None

  pub any_of_map : (xs : List X) → list_any p (map f xs) ≡ list_any (λ x. p (f x)) xs
  any_of_map xs = any-map xs
