-- The four ways in which operators take their operands.
use Rattle.std.specs.Prelude.{ℕ, max, Bool, false, ◌&&◌}
use Rattle.psl_model.specs.declared.operators.Taken.{Taken}
use Rattle.psl_model.specs.declared.operators.Taken.TheVariants.{Both, Shift, Compare, Truth}

abbrev pub width_taken : Taken → (v w : ℕ) → ℕ
width_taken Both v w = max v w
width_taken Shift v w = v
width_taken Compare v w = 1
width_taken Truth v w = 1

abbrev pub left_taken : Taken → (context v w : ℕ) → ℕ
left_taken Both context v w = context
left_taken Shift context v w = context
left_taken Compare context v w = max v w
left_taken Truth context v w = v

abbrev pub right_taken : Taken → (context v w : ℕ) → ℕ
right_taken Both context v w = context
right_taken Shift context v w = w
right_taken Compare context v w = max v w
right_taken Truth context v w = w

abbrev pub bare_taken : Taken → (left right : Bool) → Bool
bare_taken Both left right = left && right
bare_taken Shift left right = left
bare_taken Compare left right = false
bare_taken Truth left right = false
