-- What the reader gives of an expression at the front of a text: the expression, whether it is bare, and what follows
-- it.
use Rattle.std.specs.Prelude.{ℕ, zero, suc, ◌^◌, Bool, true, false, ◌&&◌, nat_eq, nat_lt, nat_le, List, codes, Option}
use Rattle.std.specs.Prelude.{Some, None, if◌then◌else◌, position, slice_index}
use Rattle.std.specs.Cmp.Lexicographic.{pointwise}
use Rattle.psl_model.specs.Expr.{Expr, whole, bit, part, plain, sized, unary, binary, choice}
use Rattle.psl_model.specs.Valid.{wants_width, choose_bare, bare_by_both, bare_by_left, is_flip}
use Rattle.psl_model.specs.Limits.{vector_limit}
use Rattle.psl_model.specs.declared.operators.UnOp.{UnOp}
use Rattle.psl_model.specs.declared.operators.BinOp.{BinOp}
use Rattle.verilog_reader.specs.inner.Pieces.{◌>>=◌, after_text, run_of, after_run, number_and_rest, begins_with_digit}
use Rattle.verilog_reader.specs.inner.Pieces.{prefix_at, infix_at}

abbrev pub Read : Type 0
Read = Option (Expr × Bool × List ℕ)

-- a literal's width is one that a vector may have, and its value fits
unfoldable pub sized_fits : (width value : ℕ) → Bool
sized_fits width value = (nat_le 1 width && nat_le width vector_limit) && nat_lt value (2 ^ width)

unfoldable pub sized_at : (width : ℕ) → List ℕ → Read
sized_at width bytes = do
  value ← number_and_rest bytes
  if sized_fits width value.0 then Some (sized width value.0, false, value.1) else None

unfoldable pub plain_fits : ℕ → Bool
plain_fits number = nat_lt number (2 ^ 32)

-- a number, or the width of a literal
abbrev pub literal_with : (number : ℕ) → Option (List ℕ) → (rest : List ℕ) → Read
literal_with number None rest = if plain_fits number then Some (plain number, true, rest) else None
literal_with number (Some more) rest = sized_at number more

unfoldable pub literal_at : List ℕ → Read
literal_at bytes = do
  number ← number_and_rest bytes
  literal_with number.0 (after_text (codes "'d") number.1) number.1

-- the place of a name in a table
unfoldable pub place_of : List (List ℕ) → List ℕ → Option ℕ
place_of names name = position (pointwise nat_eq name) names

-- a vector of more than one bit has these bits
unfoldable pub bit_fits : (width place : ℕ) → Bool
bit_fits width place = nat_lt 1 width && nat_lt place width

unfoldable pub part_fits : (width high low : ℕ) → Bool
part_fits width high low = bit_fits width high && nat_le low high

-- the second half of a part
unfoldable pub part_at : (width signal high : ℕ) → List ℕ → Read
part_at width signal high bytes = do
  start ← after_text (codes ":") bytes
  low ← number_and_rest start
  rest ← after_text (codes "]") low.1
  if part_fits width high low.0 then Some (part signal high low.0, false, rest) else None

-- behind the first number of a select
abbrev pub select_with : (width signal high : ℕ) → Option (List ℕ) → (rest : List ℕ) → Read
select_with width signal high (Some rest) more =
    if bit_fits width high then Some (bit signal high, false, rest) else None
select_with width signal high None more = part_at width signal high more

unfoldable pub select_at : (width signal : ℕ) → List ℕ → Read
select_at width signal bytes = do
  high ← number_and_rest bytes
  select_with width signal high.0 (after_text (codes "]") high.1) high.1

-- behind a name
abbrev pub name_with : (width signal : ℕ) → Option (List ℕ) → (rest : List ℕ) → Read
name_with width signal None rest = Some (whole signal, false, rest)
name_with width signal (Some start) rest = select_at width signal start

unfoldable pub name_at_front : (names : List (List ℕ)) → (widths : List ℕ) → List ℕ → Read
name_at_front names widths bytes = do
  place ← place_of names (run_of bytes)
  name_with (slice_index widths place) place (after_text (codes "[") (after_run bytes)) (after_run bytes)

unfoldable pub atom_at : (names : List (List ℕ)) → (widths : List ℕ) → List ℕ → Read
atom_at names widths bytes = if begins_with_digit bytes then literal_at bytes else name_at_front names widths bytes

-- behind the operand of a prefix operator
unfoldable pub unary_with : UnOp → Expr × Bool × List ℕ → Read
unary_with op a = do
  rest ← after_text (codes ")") a.2
  Some (unary op a.0, is_flip op && a.1, rest)

-- behind the question mark
unfoldable pub choice_with : (List ℕ → Read) → Expr → List ℕ → Read
choice_with operand test bytes = do
  first ← operand bytes
  middle ← after_text (codes " : ") first.2
  second ← operand middle
  rest ← after_text (codes ")") second.2
  Some (choice test first.0 second.0, first.1 && second.1, rest)

-- behind the right operand
unfoldable pub binary_end : BinOp → Expr → Bool → Expr × Bool × List ℕ → Read
binary_end op left bare right = do
  rest ← after_text (codes ")") right.2
  if wants_width op && (bare && right.1) then None else Some
      (binary op left right.0, choose_bare (bare_by_both op) (bare_by_left op) bare right.1, rest)

-- behind the left operand
unfoldable pub binary_with : (List ℕ → Read) → Expr → Bool → List ℕ → Read
binary_with operand left bare bytes = do
  op ← infix_at bytes
  right ← operand op.1
  binary_end op.0 left bare right

-- behind the first operand
abbrev pub joined_with : (List ℕ → Read) → Expr × Bool × List ℕ → Option (List ℕ) → Read
joined_with operand a (Some more) = choice_with operand a.0 more
joined_with operand a None = binary_with operand a.0 a.1 a.2

unfoldable pub joined_at : (List ℕ → Read) → List ℕ → Read
joined_at operand bytes = do
  a ← operand bytes
  joined_with operand a (after_text (codes " ? ") a.2)

-- behind an opening parenthesis
abbrev pub group_with : (List ℕ → Read) → List ℕ → Option (UnOp × List ℕ) → Read
group_with operand bytes None = joined_at operand bytes
group_with operand bytes (Some op) = operand op.1 >>= unary_with op.0

unfoldable pub group_at : (List ℕ → Read) → List ℕ → Read
group_at operand bytes = group_with operand bytes (prefix_at bytes)

abbrev pub either : Option (List ℕ) → (List ℕ → Read) → Read → Read
either None grouped alone = alone
either (Some rest) grouped alone = grouped rest

-- an expression in which at most so many parentheses are open at any place
unfoldable pub expression_at : (names : List (List ℕ)) → (widths : List ℕ) → (room : ℕ) → List ℕ → Read
expression_at names widths zero bytes = atom_at names widths bytes
expression_at names widths (suc room) bytes =
    either (after_text (codes "(") bytes) (group_at (expression_at names widths room)) (atom_at names widths bytes)
