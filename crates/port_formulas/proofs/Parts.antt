-- What holds of each signal that is used holds of each one that a part uses.
use Rattle.std.proofs.Common.{ℕ, Bool, true, false, refl}
use Rattle.std.specs.Prelude.{IsTrue, ◌||◌}

or_left : (a b : Bool) → IsTrue a → IsTrue (a || b)
or_left true b h = refl
or_left false b h = absurd (cc)

or_right : (a b : Bool) → IsTrue b → IsTrue (a || b)
or_right true b h = refl
or_right false b h = h

abbrev pub Each : (uses : ℕ → Bool) → (P : ℕ → Type 0) → Type 0
Each uses P = (signal : ℕ) → IsTrue (uses signal) → P signal

module _ (P : ℕ → Type 0) (u v w : ℕ → Bool) where
  pub left_each : Each (λ s. u s || v s) P → Each u P
  left_each each s h = each s (or_left (u s) (v s) h)

  pub right_each : Each (λ s. u s || v s) P → Each v P
  right_each each s h = each s (or_right (u s) (v s) h)

  pub first_each : Each (λ s. u s || (v s || w s)) P → Each u P
  first_each each s h = each s (or_left (u s) (v s || w s) h)

  pub second_each : Each (λ s. u s || (v s || w s)) P → Each v P
  second_each each s h = each s (or_right (u s) (v s || w s) (or_left (v s) (w s) h))

  pub third_each : Each (λ s. u s || (v s || w s)) P → Each w P
  third_each each s h = each s (or_right (u s) (v s || w s) (or_right (v s) (w s) h))
