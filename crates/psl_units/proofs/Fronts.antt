-- Folds and sums over the first items of a list.
use Rattle.std.proofs.Common.{◌≡◌, ℕ, zero, suc, ◌+◌, ◌<◌, ◌≤◌, Option, None, Some, List, [], ◌∷◌, take, refl, ap, sym}
use Rattle.std.proofs.Common.{subst, arith}
use Rattle.std.proofs.lemmas.List.Sums.{sum_by-cons}
use Rattle.std.proofs.lemmas.Option.{same_Some}
use Rattle.std.specs.List.{fold, slice_get, sum_by}

pub fold_next : {A B : Type 0} (f : B → A → B) (a : B) (xs : List A) (k : ℕ) (x : A)
    → slice_get xs k ≡ Some x → fold f a (take (suc k) xs) ≡ f (fold f a (take k xs)) x
fold_next f a [] k x e = absurd (cc e)
fold_next f a (y ∷ ys) zero x e = ap (λ z. f a z) (same_Some y x e)
fold_next f a (y ∷ ys) (suc k) x e = fold_next f (f a y) ys k x e

at_front : (a b n : ℕ) → a ≡ b → 0 + a ≤ b + n
at_front a b n e = omega (arith, e)

behind_front : (a b m n l r : ℕ) → m + a ≤ n → l ≡ b + m → r ≡ b + n → l + a ≤ r
behind_front a b m n l r h p q = omega (arith, h, p, q)

pub sum_front : {A : Type 0} (f : A → ℕ) (xs : List A) (place upto : ℕ) (x : A)
    → slice_get xs place ≡ Some x → place < upto → sum_by f (take place xs) + f x ≤ sum_by f (take upto xs)
sum_front f [] place upto x e lt = absurd (cc e)
sum_front f (y ∷ ys) place zero x e lt = absurd (omega arith)
sum_front f (y ∷ ys) zero (suc upto) x e lt =
    let P : ℕ → Type 0 = λ n. 0 + f x ≤ n in
    subst P (sym (sum_by-cons f y (take upto ys)))
    (at_front (f x) (f y) (sum_by f (take upto ys)) (ap f (sym (same_Some y x e))))
sum_front f (y ∷ ys) (suc place) (suc upto) x e lt =
    behind_front (f x) (f y) (sum_by f (take place ys)) (sum_by f (take upto ys))
    (sum_by f (y ∷ take place ys)) (sum_by f (y ∷ take upto ys)) (sum_front f ys place upto x e (omega arith))
    (sum_by-cons f y (take place ys)) (sum_by-cons f y (take upto ys))
