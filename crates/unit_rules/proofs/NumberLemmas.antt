-- A number may be cut off at a bound at each of its digits.
use Rattle.std.proofs.Common.{◌≡◌, ℕ, zero, suc, ◌+◌, ◌*◌, min, Bool, true, false, cond, subst, add-one, arith}
use Rattle.unit_rules.specs.Numbers.{and_digit, is_underscore, digit_of}

step_zero : (n d m : ℕ) → min (min n m * 0 + d) m ≡ min (n * 0 + d) m
step_zero n d m = omega arith

step_suc : (k n d m : ℕ) → min (min n m * (k + 1) + d) m ≡ min (n * (k + 1) + d) m
step_suc k n d m = grind arith

pub capped_step : (b n d m : ℕ) → min (min n m * b + d) m ≡ min (n * b + d) m
capped_step zero n d m = step_zero n d m
capped_step (suc k) n d m =
    let P : ℕ → Type 0 = λ b. min (min n m * b + d) m ≡ min (n * b + d) m in
    subst P (add-one k) (step_suc k n d m)

pub capped_digit : (b n byte m : ℕ) → min (and_digit b (min n m) byte) m ≡ min (and_digit b n byte) m
capped_digit b n byte m = by (is_underscore byte)
  where
    by : (u : Bool) → min (cond u (min n m) (min n m * b + digit_of byte)) m ≡ min (cond u n (n * b + digit_of byte)) m
    by true = omega arith
    by false = capped_step b n (digit_of byte) m
