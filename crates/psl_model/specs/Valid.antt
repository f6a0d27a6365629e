-- Which expressions are valid for signals of the given widths: this project's own rules, over the forms of
-- IEEE 1364-2005, 5.
use Rattle.std.specs.Prelude.{ℕ, ◌≡◌, ◌<◌, ◌≤◌, ◌+◌, ◌^◌, max, Bool, true, false, ◌&&◌, List, length, slice_index}
use Rattle.psl_model.specs.declared.operators.UnOp.{UnOp}
use Rattle.psl_model.specs.declared.operators.UnOp.TheVariants.{Flip}
use Rattle.psl_model.specs.declared.operators.BinOp.{BinOp}
use Rattle.psl_model.specs.declared.operators.BinOp.TheVariants.{Add, Sub, Shl, Shr, Lt, Le, Gt, Ge, BitAnd, BitXor}
use Rattle.psl_model.specs.declared.operators.BinOp.TheVariants.{BitOr}
use Rattle.psl_model.specs.Expr.{Expr, whole, bit, part, plain, sized, unary, binary, choice}
use Rattle.psl_model.specs.Limits.{vector_limit}

-- whether operands of the operator make it bare where both of them are, or its left one in a shift
abbrev pub bare_by_both : BinOp → Bool
bare_by_both Add = true
bare_by_both Sub = true
bare_by_both BitAnd = true
bare_by_both BitXor = true
bare_by_both BitOr = true
bare_by_both _ = false

abbrev pub bare_by_left : BinOp → Bool
bare_by_left Shl = true
bare_by_left Shr = true
bare_by_left _ = false

abbrev pub choose_bare : (by_both by_left left right : Bool) → Bool
choose_bare true by_left left right = left && right
choose_bare false true left right = left
choose_bare false false left right = false

abbrev pub is_flip : UnOp → Bool
is_flip Flip = true
is_flip _ = false

-- A bare expression takes its width from unsized decimals alone.
abbrev pub is_bare : Expr → Bool
is_bare (plain number) = true
is_bare (unary op a) = is_flip op && is_bare a
is_bare (binary op a b) = choose_bare (bare_by_both op) (bare_by_left op) (is_bare a) (is_bare b)
is_bare (choice test first second) = is_bare first && is_bare second
is_bare _ = false

-- the operators that are refused between two bare operands, since their width would be an accident
abbrev pub wants_width : BinOp → Bool
wants_width Add = true
wants_width Sub = true
wants_width Lt = true
wants_width Le = true
wants_width Gt = true
wants_width Ge = true
wants_width _ = false

abbrev pub IsValid : (widths : List ℕ) → Expr → Type 0
IsValid widths (whole signal) = signal < length widths
-- a place that the vector has, and not of a signal of one bit
IsValid widths (bit signal place) =
    (signal < length widths) × (1 < slice_index widths signal) × (place < slice_index widths signal)
IsValid widths (part signal high low) =
    (signal < length widths) × (1 < slice_index widths signal) × (high < slice_index widths signal) × (low ≤ high)
IsValid widths (plain number) = number < 2 ^ 32
IsValid widths (sized width value) = (1 ≤ width) × (width ≤ vector_limit) × (value < 2 ^ width)
IsValid widths (unary op a) = IsValid widths a
IsValid widths (binary op a b) =
    (wants_width op && (is_bare a && is_bare b) ≡ false) × IsValid widths a × IsValid widths b
IsValid widths (choice test first second) = IsValid widths test × IsValid widths first × IsValid widths second

-- how many parentheses are open at some place of the expression's text, at most
abbrev pub parentheses : Expr → ℕ
parentheses (unary op a) = parentheses a + 1
parentheses (binary op a b) = max (parentheses a) (parentheses b) + 1
parentheses (choice test first second) = max (parentheses test) (max (parentheses first) (parentheses second)) + 1
parentheses _ = 0
