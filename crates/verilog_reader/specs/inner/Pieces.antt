-- What the reader gives of the pieces of a text: fixed words, runs of name bytes, numbers and operators.
use Rattle.std.specs.Prelude.{ℕ, ◌^◌, Bool, false, ◌&&◌, nat_eq, nat_lt, List, [], ◌∷◌, length, take, drop, decimal}
use Rattle.std.specs.Prelude.{Option, Some, None, if◌then◌else◌}
use Rattle.std.specs.List.{prefix_len}
use Rattle.std.specs.Str.Parse.{digits_value}
use Rattle.std.specs.Cmp.Lexicographic.{pointwise}
use Rattle.psl_model.specs.Names.{between, continues_name}
use Rattle.psl_model.specs.declared.operators.UnOp.{UnOp}
use Rattle.psl_model.specs.declared.operators.BinOp.{BinOp}
use Rattle.psl_model.specs.Operators.{unary_operators, binary_operators}
use Rattle.verilog_text.specs.Text.{unary_symbol, infix_text}

infixl 10 ◌>>=◌
abbrev pub ◌>>=◌ : {A B : Type 0} → Option A → (A → Option B) → Option B
None >>= f = None
(Some x) >>= f = f x

-- what follows a text, where it stands at the front
unfoldable pub after_text : (text bytes : List ℕ) → Option (List ℕ)
after_text text bytes =
    if pointwise nat_eq (take (length text) bytes) text then Some (drop (length text) bytes) else None

-- the bytes of names at the front, and what follows them
unfoldable pub run_of : List ℕ → List ℕ
run_of bytes = take (prefix_len continues_name bytes) bytes

unfoldable pub after_run : List ℕ → List ℕ
after_run bytes = drop (prefix_len continues_name bytes) bytes

-- the number below 2 ^ 64 that is written so
unfoldable pub number_of : List ℕ → Option ℕ
number_of run =
    let value = digits_value 10 run in
    if pointwise nat_eq (decimal value) run && nat_lt value (2 ^ 64) then Some value else None

unfoldable pub number_and_rest : List ℕ → Option (ℕ × List ℕ)
number_and_rest bytes = do
  number ← number_of (run_of bytes)
  Some (number, after_run bytes)

abbrev pub begins_with_digit : List ℕ → Bool
begins_with_digit [] = false
begins_with_digit (byte ∷ bytes) = between 48 57 byte

-- the first of the operators whose text stands at the front, and what follows it
abbrev pub first_with : {X : Type 0} → Option (List ℕ) → X → Option (X × List ℕ) → Option (X × List ℕ)
first_with (Some rest) x later = Some (x, rest)
first_with None x later = later

abbrev pub first_of : {X : Type 0} → (X → List ℕ) → List X → List ℕ → Option (X × List ℕ)
first_of spell [] bytes = None
first_of spell (x ∷ xs) bytes = first_with (after_text (spell x) bytes) x (first_of spell xs bytes)

unfoldable pub prefix_at : List ℕ → Option (UnOp × List ℕ)
prefix_at bytes = first_of unary_symbol unary_operators bytes

unfoldable pub infix_at : List ℕ → Option (BinOp × List ℕ)
infix_at bytes = first_of infix_text binary_operators bytes
