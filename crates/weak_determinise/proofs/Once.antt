-- Lists as sets, where a test decides which elements are equal.
use Rattle.std.proofs.Common.{◌≡◌, ℕ, zero, suc, ◌+◌, ◌<◌, Bool, true, false, not, cond, ◌||◌, List, [], ◌∷◌, ◌++◌}
use Rattle.std.proofs.Common.{length, get_or, filter, slice_get, Some, ◌⊎◌, inl, inr, refl, sym, ap, ◌∙◌, subst}
use Rattle.std.proofs.Common.{arith, AllPairs, ◌≢◌}
use Rattle.std.specs.Bool.{Decides}
use Rattle.std.specs.List.{list_any, position_or_len}
use Rattle.indexmap.specs.IndexSet.{insert_key}
use Rattle.weak_determinise.proofs.Members.{Among}

-- a test with its answer
pub told : (b : Bool) → (b ≡ true) ⊎ (b ≡ false)
told true = inl refl
told false = inr refl

pub true-false : true ≡ false → ⊥
true-false e = cc

-- each element is another than those after it
abbrev pub Apart : {X : Type 0} → List X → Type 0
Apart [] = Unit {0}
Apart (x ∷ xs) = (Among xs x → ⊥) × Apart xs

module _ {X : Type 0} where
  pub Among-append : (xs ys : List X) (x : X) → Among (xs ++ ys) x → Among xs x ⊎ Among ys x
  Among-append [] ys x h = inr h
  Among-append (y ∷ xs) ys x (inl e) = inl (inl e)
  Among-append (y ∷ xs) ys x (inr h) = elim (Among-append xs ys x h) [ inl f ↦ inl (inr f) | inr f ↦ inr f ]

  pub Among-left : (xs ys : List X) (x : X) → Among xs x → Among (xs ++ ys) x
  Among-left [] ys x h = absurd h
  Among-left (y ∷ xs) ys x (inl e) = inl e
  Among-left (y ∷ xs) ys x (inr h) = inr (Among-left xs ys x h)

  pub Among-right : (xs ys : List X) (x : X) → Among ys x → Among (xs ++ ys) x
  Among-right [] ys x h = h
  Among-right (y ∷ xs) ys x h = inr (Among-right xs ys x h)

  pub Among-slice_get : (xs : List X) (i : ℕ) (x : X) → slice_get xs i ≡ Some x → Among xs x
  Among-slice_get [] i x h = absurd (let e = h in cc)
  Among-slice_get (y ∷ xs) zero x h = inl (let e : y ≡ x = cc in e)
  Among-slice_get (y ∷ xs) (suc i) x h = inr (Among-slice_get xs i x h)

  pub slice_get-Among : (xs : List X) (x : X) → Among xs x → (i : ℕ) × (i < length xs) × (slice_get xs i ≡ Some x)
  slice_get-Among [] x h = absurd h
  slice_get-Among (y ∷ xs) x (inl e) = (0, omega arith, ap (λ (z : X). Some z) e)
  slice_get-Among (y ∷ xs) x (inr h) = let (i, lt, e) = slice_get-Among xs x h in (suc i, omega arith, e)

  pub Among-filter : (p : X → Bool) (xs : List X) (x : X) → Among (filter p xs) x → Among xs x × (p x ≡ true)
  Among-filter p [] x h = absurd h
  Among-filter p (y ∷ xs) x h =
      elim (told (p y)) [
        | inl e ↦ elim (subst (λ (b : Bool). Among (cond b (y ∷ filter p xs) (filter p xs)) x) e h) [
          | inl f ↦ (inl f, subst (λ (z : X). p z ≡ true) f e)
          | inr f ↦ let r : Among xs x × (p x ≡ true) = Among-filter p xs x f in (inr r.0, r.1)
        ]
        | inr e ↦ let r : Among xs x ×
            (p x ≡ true) = Among-filter p xs x
            (subst (λ (b : Bool). Among (cond b (y ∷ filter p xs) (filter p xs)) x) e h) in (inr r.0, r.1)
      ]

  pub append-nil : (xs : List X) → xs ++ [] ≡ xs
  append-nil [] = refl
  append-nil (x ∷ xs) = ap (λ (s : List X). x ∷ s) (append-nil xs)

  pub Apart-push : (xs : List X) (x : X) → Apart xs → (Among xs x → ⊥) → Apart (xs ++ x ∷ [])
  Apart-push [] x h out = ((λ f. f), tt)
  Apart-push (y ∷ xs) x h out = (
    (λ f. elim (Among-append xs (x ∷ []) y f)
        [ inl g ↦ h.0 g | inr g ↦ elim g [ inl e ↦ out (inl (sym e)) | inr i ↦ i ] ]),
    Apart-push xs x h.1 (λ f. out (inr f)),
  )

  Among-get_or : (xs : List X) (k : ℕ) (d : X) → k < length xs → Among xs (get_or xs k d)
  Among-get_or [] k d lt = absurd (omega arith)
  Among-get_or (y ∷ xs) zero d lt = inl refl
  Among-get_or (y ∷ xs) (suc k) d lt = inr (Among-get_or xs k d (omega arith))

  pub AllPairs-from_Apart : (xs : List X) → Apart xs → AllPairs (λ x y. x ≢ y) xs
  AllPairs-from_Apart [] h i j d lt below = absurd (omega arith)
  AllPairs-from_Apart (x ∷ xs) h zero zero d lt below = absurd (omega arith)
  AllPairs-from_Apart (x ∷ xs) h zero (suc j) d lt below =
      λ e. h.0 (subst (Among xs) (sym e) (Among-get_or xs j d (omega arith)))
  AllPairs-from_Apart (x ∷ xs) h (suc i) zero d lt below = absurd (omega arith)
  AllPairs-from_Apart (x ∷ xs) h (suc i) (suc j) d lt below = AllPairs-from_Apart xs h.1 i j d (omega arith)
      (omega arith)

  pub Apart-from_AllPairs : (xs : List X) → AllPairs (λ x y. x ≢ y) xs → Apart xs
  Apart-from_AllPairs [] h = tt
  Apart-from_AllPairs (x ∷ xs) h = (
    (λ f. apart xs x (λ j lt. h 0 (suc j) x (omega arith) (omega arith)) f),
    Apart-from_AllPairs xs (λ i j d lt below. h (suc i) (suc j) d (omega arith) (omega arith)),
  )
    where
      apart : (xs : List X) (x : X) → ((j : ℕ) → j < length xs → x ≢ get_or xs j x) → Among xs x → ⊥
      apart [] x out f = f
      apart (y ∷ xs) x out (inl e) = out 0 (omega arith) (sym e)
      apart (y ∷ xs) x out (inr f) = apart xs x (λ j lt. out (suc j) (omega arith)) f

module _ {X : Type 0} (eq : X → X → Bool) (decides : (x y : X) → Decides (eq x y) (x ≡ y)) where
  pub any-Among : (xs : List X) (x : X) → list_any (eq x) xs ≡ true → Among xs x
  any-Among [] x h = absurd (true-false (sym h))
  any-Among (y ∷ xs) x h =
      elim (told (eq x y)) [
        | inl e ↦ inl (sym ((decides x y).0 e))
        | inr e ↦ inr (any-Among xs x (sym (ap (λ (b : Bool). b || list_any (eq x) xs) e) ∙ h))
      ]

  pub Among-any : (xs : List X) (x : X) → Among xs x → list_any (eq x) xs ≡ true
  Among-any [] x h = absurd h
  Among-any (y ∷ xs) x (inl e) = ap (λ (b : Bool). b || list_any (eq x) xs) ((decides x y).1 (sym e))
  Among-any (y ∷ xs) x (inr h) =
      elim (told (eq x y)) [
        | inl e ↦ ap (λ (b : Bool). b || list_any (eq x) xs) e
        | inr e ↦ ap (λ (b : Bool). b || list_any (eq x) xs) e ∙ Among-any xs x h
      ]

  pub among_or_not : (xs : List X) (x : X) → Among xs x ⊎ (Among xs x → ⊥)
  among_or_not xs x = elim (told (list_any (eq x) xs))
      [ inl e ↦ inl (any-Among xs x e) | inr e ↦ inr (λ h. true-false (sym (Among-any xs x h) ∙ e)) ]

  pub insert_key-there : (ks : List X) (k : X) → Among ks k → insert_key eq ks k ≡ ks
  insert_key-there ks k h = ap (λ (b : Bool). cond b ks (ks ++ k ∷ [])) (Among-any ks k h)

  pub insert_key-new : (ks : List X) (k : X) → (Among ks k → ⊥) → insert_key eq ks k ≡ ks ++ k ∷ []
  insert_key-new ks k out = elim (told (list_any (eq k) ks))
      [ inl e ↦ absurd (out (any-Among ks k e)) | inr e ↦ ap (λ (b : Bool). cond b ks (ks ++ k ∷ [])) e ]

  -- ---- places

  place-here : (y x : X) (xs : List X) → eq x y ≡ true → position_or_len (eq x) (y ∷ xs) ≡ 0
  place-here y x xs e = ap (λ (b : Bool). cond (not b) (1 + position_or_len (eq x) xs) 0) e

  place-next : (y x : X) (xs : List X) → eq x y ≡ false → position_or_len (eq x) (y ∷ xs) ≡ suc
      (position_or_len (eq x) xs)
  place-next y x xs e = ap (λ (b : Bool). cond (not b) (1 + position_or_len (eq x) xs) 0) e
      ∙ (let f : 1 + position_or_len (eq x) xs ≡ suc (position_or_len (eq x) xs) = omega arith in f)

  pub position-Among : (xs : List X) (x : X) → Among xs x → (position_or_len (eq x) xs < length xs) ×
      (slice_get xs (position_or_len (eq x) xs) ≡ Some x)
  position-Among [] x h = absurd h
  position-Among (y ∷ xs) x h =
      elim (told (eq x y)) [
        | inl e ↦ (
          let f = place-here y x xs e in omega arith,
          ap (slice_get (y ∷ xs)) (place-here y x xs e)
              ∙ ap (λ (z : X). Some z) (sym ((decides x y).0 e)),
        )
        | inr e ↦ elim h [
          | inl f ↦ absurd (true-false (sym ((decides x y).1 (sym f)) ∙ e))
          | inr f ↦ let r : (position_or_len (eq x) xs < length xs) ×
              (slice_get xs (position_or_len (eq x) xs) ≡ Some x) = position-Among xs x f in
              (let g = place-next y x xs e in omega (arith, r.0), ap (slice_get (y ∷ xs)) (place-next y x xs e) ∙ r.1)
        ]
      ]

  pub position-absent : (xs : List X) (x : X) → (Among xs x → ⊥) → position_or_len (eq x) xs ≡ length xs
  position-absent [] x out = refl
  position-absent (y ∷ xs) x out =
      elim (told (eq x y)) [
        | inl e ↦ absurd (out (inl (sym ((decides x y).0 e))))
        | inr e ↦ place-next y x xs e ∙ ap suc (position-absent xs x (λ f. out (inr f)))
      ]
