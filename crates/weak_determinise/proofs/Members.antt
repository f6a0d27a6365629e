-- Membership by recursion on the list, for proofs, and its two sides of `Contains`.
use Rattle.std.proofs.Common.{◌≡◌, ℕ, zero, suc, ◌<◌, List, [], ◌∷◌, length, get_or, Contains, inl, inr, refl}
use Rattle.std.proofs.Common.{subst, arith}
use Rattle.std.specs.List.{AllByRecursion}
pub use Rattle.weak_determinise.specs.inner.Among.{Among}

module _ {X : Type 0} where
  pub Contains-from_Among : (xs : List X) (x : X) → Among xs x → Contains xs x
  Contains-from_Among [] x h = absurd h
  Contains-from_Among (y ∷ ys) x (inl e) = (0, omega arith, e)
  Contains-from_Among (y ∷ ys) x (inr h) = let (k, lt, e) = Contains-from_Among ys x h in (suc k, omega arith, e)

  pub Among-get_or : (xs : List X) (k : ℕ) (x : X) → k < length xs → get_or xs k x ≡ x → Among xs x
  Among-get_or [] k x lt e = absurd (omega arith)
  Among-get_or (y ∷ ys) zero x lt e = inl e
  Among-get_or (y ∷ ys) (suc k) x lt e = inr (Among-get_or ys k x (omega arith) e)

  pub Among-from_Contains : (xs : List X) (x : X) → Contains xs x → Among xs x
  Among-from_Contains xs x h = Among-get_or xs h.0 x h.1 h.2

  pub ByRecursion-among : (P : X → Type 0) (xs : List X) (x : X) → AllByRecursion P xs → Among xs x → P x
  ByRecursion-among P [] x all h = absurd h
  ByRecursion-among P (y ∷ ys) x all (inl e) = subst P e all.0
  ByRecursion-among P (y ∷ ys) x all (inr h) = ByRecursion-among P ys x all.1 h

  pub ByRecursion-from : (P : X → Type 0) (xs : List X) → ((x : X) → Among xs x → P x) → AllByRecursion P xs
  ByRecursion-from P [] f = tt
  ByRecursion-from P (y ∷ ys) f = (f y (inl refl), ByRecursion-from P ys (λ x h. f x (inr h)))
