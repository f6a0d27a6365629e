-- Membership by recursion on the list, and lists of different elements.
use Rattle.std.proofs.Common.{◌≡◌, ◌≢◌, ◌∙◌, refl, sym, ap, subst, ℕ, zero, suc, ◌<◌, Bool, true, false, cond, ◌⊎◌}
use Rattle.std.proofs.Common.{List, [], ◌∷◌, ◌++◌, length, get_or, map, filter, slice_get, Some, inl, inr, arith}
use Rattle.std.proofs.Common.{All, AllPairs, Contains}
use Rattle.std.proofs.lemmas.List.Elements.{All-contains}
use Rattle.std.proofs.lemmas.Option.{same_Some}

abbrev pub Among : {X : Type 0} → List X → X → Type 0
Among [] x = ⊥
Among (y ∷ ys) x = (y ≡ x) ⊎ Among ys x

-- each element is another than those after it
abbrev pub Apart : {X : Type 0} → List X → Type 0
Apart [] = Unit {0}
Apart (x ∷ xs) = (Among xs x → ⊥) × Apart xs

-- a test with its answer
pub told : (b : Bool) → (b ≡ true) ⊎ (b ≡ false)
told true = inl refl
told false = inr refl

module _ {X : Type 0} where
  pub Contains-from_Among : (xs : List X) (x : X) → Among xs x → Contains xs x
  Contains-from_Among [] x h = absurd h
  Contains-from_Among (y ∷ ys) x (inl e) = (0, omega arith, e)
  Contains-from_Among (y ∷ ys) x (inr h) = let (k, lt, e) = Contains-from_Among ys x h in (suc k, omega arith, e)

  Among-get_or_is : (xs : List X) (k : ℕ) (x : X) → k < length xs → get_or xs k x ≡ x → Among xs x
  Among-get_or_is [] k x lt e = absurd (omega arith)
  Among-get_or_is (y ∷ ys) zero x lt e = inl e
  Among-get_or_is (y ∷ ys) (suc k) x lt e = inr (Among-get_or_is ys k x (omega arith) e)

  pub Among-from_Contains : (xs : List X) (x : X) → Contains xs x → Among xs x
  Among-from_Contains xs x h = Among-get_or_is xs h.0 x h.1 h.2

  pub Among-append : (xs ys : List X) (x : X) → Among (xs ++ ys) x → Among xs x ⊎ Among ys x
  Among-append [] ys x h = inr h
  Among-append (y ∷ xs) ys x (inl e) = inl (inl e)
  Among-append (y ∷ xs) ys x (inr h) = elim (Among-append xs ys x h) [ inl f ↦ inl (inr f) | inr f ↦ inr f ]

  pub Among-left : (xs ys : List X) (x : X) → Among xs x → Among (xs ++ ys) x
  Among-left [] ys x h = absurd h
  Among-left (y ∷ xs) ys x (inl e) = inl e
  Among-left (y ∷ xs) ys x (inr h) = inr (Among-left xs ys x h)

  pub Among-right : (xs ys : List X) (x : X) → Among ys x → Among (xs ++ ys) x
  Among-right [] ys x h = h
  Among-right (y ∷ xs) ys x h = inr (Among-right xs ys x h)

  pub Among-slice_get : (xs : List X) (i : ℕ) (x : X) → slice_get xs i ≡ Some x → Among xs x
  Among-slice_get [] i x h = absurd (let e = h in cc)
  Among-slice_get (y ∷ xs) zero x h = inl (let e : y ≡ x = cc in e)
  Among-slice_get (y ∷ xs) (suc i) x h = inr (Among-slice_get xs i x h)

  pub Among-filter : (p : X → Bool) (xs : List X) (x : X) → Among (filter p xs) x → Among xs x × (p x ≡ true)
  Among-filter p [] x h = absurd h
  Among-filter p (y ∷ xs) x h =
      elim (told (p y)) [
        | inl e ↦ elim (subst (λ (b : Bool). Among (cond b (y ∷ filter p xs) (filter p xs)) x) e h) [
          | inl f ↦ (inl f, subst (λ (z : X). p z ≡ true) f e)
          | inr f ↦ let r : Among xs x × (p x ≡ true) = Among-filter p xs x f in (inr r.0, r.1)
        ]
        | inr e ↦ let r : Among xs x ×
            (p x ≡ true) = Among-filter p xs x
            (subst (λ (b : Bool). Among (cond b (y ∷ filter p xs) (filter p xs)) x) e h) in (inr r.0, r.1)
      ]

  pub Among-filter_back : (p : X → Bool) (xs : List X) (x : X) → Among xs x → p x ≡ true → Among (filter p xs) x
  Among-filter_back p [] x h e = absurd h
  Among-filter_back p (y ∷ xs) x (inl f) e = subst (λ (b : Bool). Among (cond b (y ∷ filter p xs) (filter p xs)) x)
      (sym (ap p f ∙ e)) (inl f)
  Among-filter_back p (y ∷ xs) x (inr h) e =
      elim (told (p y)) [
        | inl g ↦ subst (λ (b : Bool). Among (cond b (y ∷ filter p xs) (filter p xs)) x) (sym g)
            (inr (Among-filter_back p xs x h e))
        | inr g ↦ subst (λ (b : Bool). Among (cond b (y ∷ filter p xs) (filter p xs)) x) (sym g)
            (Among-filter_back p xs x h e)
      ]

  pub append-nil : (xs : List X) → xs ++ [] ≡ xs
  append-nil [] = refl
  append-nil (x ∷ xs) = ap (λ (s : List X). x ∷ s) (append-nil xs)

  pub Among-get_or : (xs : List X) (k : ℕ) (d : X) → k < length xs → Among xs (get_or xs k d)
  Among-get_or [] k d lt = absurd (omega arith)
  Among-get_or (y ∷ xs) zero d lt = inl refl
  Among-get_or (y ∷ xs) (suc k) d lt = inr (Among-get_or xs k d (omega arith))

  pub AllPairs-from_Apart : (xs : List X) → Apart xs → AllPairs (λ x y. x ≢ y) xs
  AllPairs-from_Apart [] h i j d lt below = absurd (omega arith)
  AllPairs-from_Apart (x ∷ xs) h zero zero d lt below = absurd (omega arith)
  AllPairs-from_Apart (x ∷ xs) h zero (suc j) d lt below =
      λ e. h.0 (subst (Among xs) (sym e) (Among-get_or xs j d (omega arith)))
  AllPairs-from_Apart (x ∷ xs) h (suc i) zero d lt below = absurd (omega arith)
  AllPairs-from_Apart (x ∷ xs) h (suc i) (suc j) d lt below = AllPairs-from_Apart xs h.1 i j d (omega arith)
      (omega arith)

  pub Apart-from_AllPairs : (xs : List X) → AllPairs (λ x y. x ≢ y) xs → Apart xs
  Apart-from_AllPairs [] h = tt
  Apart-from_AllPairs (x ∷ xs) h = (
    (λ f. apart xs x (λ j lt. h 0 (suc j) x (omega arith) (omega arith)) f),
    Apart-from_AllPairs xs (λ i j d lt below. h (suc i) (suc j) d (omega arith) (omega arith)),
  )
    where
      apart : (xs : List X) (x : X) → ((j : ℕ) → j < length xs → x ≢ get_or xs j x) → Among xs x → ⊥
      apart [] x out f = f
      apart (y ∷ xs) x out (inl e) = out 0 (omega arith) (sym e)
      apart (y ∷ xs) x out (inr f) = apart xs x (λ j lt. out (suc j) (omega arith)) f

  pub All-among : (P : X → Type 0) (xs : List X) (x : X) → All P xs → Among xs x → P x
  All-among P xs x all h = All-contains P xs x all (Contains-from_Among xs x h)

  -- an element stands in a list without equal ones at one place only
  pub one_place : (xs : List X) (i j : ℕ) (x : X) → Apart xs → slice_get xs i ≡ Some x →
      slice_get xs j ≡ Some x → i ≡ j
  one_place [] i j x apart h k = absurd (let e = h in cc)
  one_place (y ∷ xs) zero zero x apart h k = refl
  one_place (y ∷ xs) zero (suc j) x apart h k =
      absurd (apart.0 (subst (Among xs) (sym (same_Some y x h)) (Among-slice_get xs j x k)))
  one_place (y ∷ xs) (suc i) zero x apart h k =
      absurd (apart.0 (subst (Among xs) (sym (same_Some y x k)) (Among-slice_get xs i x h)))
  one_place (y ∷ xs) (suc i) (suc j) x apart h k = ap suc (one_place xs i j x apart.1 h k)

module _ {X Y : Type 0} (f : X → Y) where
  pub map-append : (xs ys : List X) → map f (xs ++ ys) ≡ map f xs ++ map f ys
  map-append [] ys = refl
  map-append (x ∷ xs) ys = ap (λ (s : List Y). f x ∷ s) (map-append xs ys)

  pub Among-map : (xs : List X) (x : X) → Among xs x → Among (map f xs) (f x)
  Among-map [] x h = h
  Among-map (y ∷ xs) x (inl e) = inl (ap f e)
  Among-map (y ∷ xs) x (inr h) = inr (Among-map xs x h)

  pub map-Among : (xs : List X) (y : Y) → Among (map f xs) y → (x : X) × Among xs x × (f x ≡ y)
  map-Among [] y h = absurd h
  map-Among (x ∷ xs) y (inl e) = (x, inl refl, e)
  map-Among (x ∷ xs) y (inr h) = let (z, k, e) = map-Among xs y h in (z, inr k, e)

  pub map-agree : (g : X → Y) (xs : List X) → ((x : X) → Among xs x → f x ≡ g x) → map f xs ≡ map g xs
  map-agree g [] h = refl
  map-agree g (x ∷ xs) h = ap (λ (y : Y). y ∷ map f xs) (h x (inl refl))
      ∙ ap (λ (s : List Y). g x ∷ s) (map-agree g xs (λ y k. h y (inr k)))

pub All-from_among : {X : Type 0} (P : X → Type 0) (xs : List X) → ((x : X) → Among xs x → P x) → All P xs
All-from_among P xs f k d lt = f (get_or xs k d) (Among-get_or xs k d lt)
