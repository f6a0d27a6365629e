-- What the code asks of an expression, as tests.
use Rattle.std.specs.Prelude.{ℕ, ◌^◌, Bool, ◌&&◌, not, nat_lt, nat_le, List, length, slice_index}
use Rattle.psl_model.specs.Expr.{Expr, whole, bit, part, plain, sized, unary, binary, choice}
use Rattle.psl_model.specs.Limits.{vector_limit}
use Rattle.psl_model.specs.Valid.{is_bare, wants_width}

-- a vector that has the place
abbrev pub place_test : (widths : List ℕ) → (signal place : ℕ) → Bool
place_test widths signal place =
    nat_lt signal (length widths) && (nat_lt 1 (slice_index widths signal) && nat_lt place (slice_index widths signal))

abbrev pub literal_test : (width value : ℕ) → Bool
literal_test width value = nat_le 1 width && (nat_le width vector_limit && nat_lt value (2 ^ width))

abbrev pub valid_test : (widths : List ℕ) → Expr → Bool
valid_test widths (whole signal) = nat_lt signal (length widths)
valid_test widths (bit signal place) = place_test widths signal place
valid_test widths (part signal high low) = place_test widths signal high && nat_le low high
valid_test widths (plain number) = nat_lt number (2 ^ 32)
valid_test widths (sized width value) = literal_test width value
valid_test widths (unary op a) = valid_test widths a
valid_test widths (binary op a b) =
    not (wants_width op && (is_bare a && is_bare b)) && (valid_test widths a && valid_test widths b)
valid_test widths (choice t y n) = valid_test widths t && (valid_test widths y && valid_test widths n)
