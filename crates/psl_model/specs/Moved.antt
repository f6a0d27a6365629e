-- An expression over a table of signals, moved to a table that has more of them before and after.
--     moved by e                  e, with each signal's place raised by `by`
--     Carries by count old new    the new table has the first `count` entries of the old one, from place `by` on
use Rattle.std.specs.Prelude.{ℕ, ◌≡◌, ◌+◌, ◌<◌, List, slice_index}
use Rattle.psl_model.specs.Expr.{Expr, whole, bit, part, plain, sized, unary, binary, choice}

abbrev pub moved : (by : ℕ) → Expr → Expr
moved by (whole signal) = whole (by + signal)
moved by (bit signal place) = bit (by + signal) place
moved by (part signal high low) = part (by + signal) high low
moved by (plain number) = plain number
moved by (sized width value) = sized width value
moved by (unary op a) = unary op (moved by a)
moved by (binary op a b) = binary op (moved by a) (moved by b)
moved by (choice test first second) = choice (moved by test) (moved by first) (moved by second)

abbrev pub Carries : (by count : ℕ) → (old new : List ℕ) → Type 0
Carries by count old new =
    (signal : ℕ) → signal < count → slice_index new (by + signal) ≡ slice_index old signal
