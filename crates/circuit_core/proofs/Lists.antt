-- What stands at the places of a list that grows or changes at one place.
use Rattle.std.specs.Prelude.{ℕ, zero, suc, ◌≡◌, ◌≢◌, ◌⊎◌, ◌<◌, ◌++◌, List, [], ◌∷◌, Some, length, slice_get}
use Rattle.std.proofs.Common.{refl, ap, arith, inl, inr}
use Rattle.std.proofs.Math.ListN.{set}
use Rattle.std.proofs.lemmas.Option.{same_Some}

pub get_append : {X : Type 0} (xs ys : List X) (k : ℕ) (x : X) → slice_get xs k ≡ Some x →
    slice_get (xs ++ ys) k ≡ Some x
get_append [] ys k x h = absurd (cc)
get_append (y ∷ xs) ys zero x h = h
get_append (y ∷ xs) ys (suc k) x h = get_append xs ys k x h

pub get_last : {X : Type 0} (xs : List X) (y : X) → slice_get (xs ++ y ∷ []) (length xs) ≡ Some y
get_last [] y = refl
get_last (x ∷ xs) y = get_last xs y

-- what stands in a list with one more stood there before or is the new one
pub get_pushed : {X : Type 0} (xs : List X) (y : X) (k : ℕ) (x : X) → slice_get (xs ++ y ∷ []) k ≡ Some x →
    (slice_get xs k ≡ Some x) ⊎ ((k ≡ length xs) × (y ≡ x))
get_pushed [] y zero x h = inr (refl, same_Some y x h)
get_pushed [] y (suc k) x h = absurd (cc)
get_pushed (z ∷ xs) y zero x h = inl h
get_pushed (z ∷ xs) y (suc k) x h =
    elim (get_pushed xs y k x h) [ inl there ↦ inl there | inr new ↦ inr (ap suc new.0, new.1) ]

-- each place of a list has something
pub there : {X : Type 0} (xs : List X) (k : ℕ) → k < length xs → (x : X) × (slice_get xs k ≡ Some x)
there [] k below = absurd (omega arith)
there (x ∷ xs) zero below = (x, refl)
there (x ∷ xs) (suc k) below = there xs k (omega arith)

pub get_set : {X : Type 0} (xs : List X) (r : ℕ) (x y : X) → slice_get xs r ≡ Some x → slice_get (set xs r y) r ≡ Some y
get_set [] r x y h = absurd (cc)
get_set (z ∷ xs) zero x y h = refl
get_set (z ∷ xs) (suc r) x y h = get_set xs r x y h

-- the other places stay as they were
pub get_set_other : {X : Type 0} (xs : List X) (r q : ℕ) (y : X) → q ≢ r → slice_get (set xs r y) q ≡ slice_get xs q
get_set_other [] r q y other = refl
get_set_other (z ∷ xs) zero zero y other = absurd (other refl)
get_set_other (z ∷ xs) zero (suc q) y other = refl
get_set_other (z ∷ xs) (suc r) zero y other = refl
get_set_other (z ∷ xs) (suc r) (suc q) y other = get_set_other xs r q y (λ e. other (ap suc e))

pub same_or_not : (q r : ℕ) → (q ≡ r) ⊎ (q ≢ r)
same_or_not zero zero = inl refl
same_or_not zero (suc r) = inr (λ e. omega arith)
same_or_not (suc q) zero = inr (λ e. omega arith)
same_or_not (suc q) (suc r) = elim (same_or_not q r) [ inl e ↦ inl (ap suc e) | inr d ↦ inr (λ e. d (omega arith)) ]
