-- The text of a name with its select, or of a number, is read as what it spells.
use Rattle.std.proofs.Common.{◌≡◌, ℕ, ◌<◌, ◌≤◌, ◌^◌, true, false, List, [], ◌∷◌, ◌++◌, length, refl, ap, ◌∙◌, arith}
use Rattle.std.proofs.Common.{Some, None}
use Rattle.std.proofs.lemmas.Bool.Decides.{nat_tests}
use Rattle.std.specs.Prelude.{nat_lt, nat_le, Option, codes, decimal, slice_index}
use Rattle.std.specs.List.{prefix_len, list_all}
use Rattle.psl_model.specs.Expr.{whole, bit, part, plain, sized}
use Rattle.psl_model.specs.Limits.{vector_limit}
use Rattle.psl_model.specs.Names.{between, begins_name, continues_name, IsIdentifier}
use Rattle.verilog_text.specs.Text.{name_at}
use Rattle.verilog_reader.specs.inner.Pieces.{after_text, begins_with_digit}
use Rattle.verilog_reader.specs.inner.Phrases.{plain_fits, sized_fits, bit_fits, part_fits, literal_at, sized_at}
use Rattle.verilog_reader.specs.inner.Phrases.{part_at, select_at, name_with, name_at_front, atom_at}
use Rattle.verilog_reader.specs.inner.Table.{IsTable}
use Rattle.verilog_reader.proofs.Pieces.{after_text-text, run_of-front, after_run-front, number_and_rest-decimal}
use Rattle.verilog_reader.proofs.Pieces.{decimal_begins}
use Rattle.verilog_reader.proofs.Operators.{Stops}

letter_continues : (b : ℕ) → begins_name b ≡ true → continues_name b ≡ true
letter_continues b e = rw e refl

letter_no_digit : (b : ℕ) → begins_name b ≡ true → between 48 57 b ≡ false
letter_no_digit b e = grind (arith, nat_tests)

pub name_continues : (name : List ℕ) → IsIdentifier name → list_all continues_name name ≡ true
name_continues [] is = absurd is
name_continues (b ∷ bs) is = rw (letter_continues b is.0) is.1

pub name_begins : (name rest : List ℕ) → IsIdentifier name → (b : ℕ) × (tail : List ℕ) × (name ++ rest ≡ b ∷ tail)
    × (begins_name b ≡ true)
name_begins [] rest is = absurd is
name_begins (b ∷ bs) rest is = (b, bs ++ rest, refl, is.0)

name_no_digit : (name rest : List ℕ) → IsIdentifier name → begins_with_digit (name ++ rest) ≡ false
name_no_digit [] rest is = absurd is
name_no_digit (b ∷ bs) rest is = letter_no_digit b is.0

number_digit : (n : ℕ) (rest : List ℕ) → n < 2 ^ 64 → begins_with_digit (decimal n ++ rest) ≡ true
number_digit n rest small =
    let begins = decimal_begins n rest small in
    ap begins_with_digit begins.2 ∙ begins.3

below_limit : (n width : ℕ) → n < width → width ≤ 64 → n < 2 ^ 64
below_limit n width lt le = omega arith

less_true : (m n : ℕ) → m < n → nat_lt m n ≡ true
less_true m n lt = grind (arith, nat_tests)

at_most_true : (m n : ℕ) → m ≤ n → nat_le m n ≡ true
at_most_true m n le = grind (arith, nat_tests)

-- a name, and what stands behind it
named : (names : List (List ℕ)) (widths : List ℕ) (table : IsTable names widths) (signal : ℕ) (tail : List ℕ) →
    signal < length widths → prefix_len continues_name tail ≡ 0 →
    atom_at names widths (name_at names signal ++ tail) ≡ name_with (slice_index widths signal) signal
    (after_text (codes "[") tail) tail
unfolding atom_at name_at_front
named names widths table signal tail lt end =
    let within : signal < length names = omega (arith, table.lengths) in
    let name = name_at names signal in
    let is = table.identifiers signal within in
    rw (
      name_no_digit name tail is,
      run_of-front name tail (name_continues name is) end,
      after_run-front name tail (name_continues name is) end,
      table.places signal within,
    ) refl

pub whole_reads : (names : List (List ℕ)) (widths : List ℕ) (table : IsTable names widths) (signal : ℕ)
    (rest : List ℕ) →
    signal < length widths → Stops rest → atom_at names widths (name_at names signal ++ rest)
    ≡ Some (whole signal, false, rest)
whole_reads names widths table signal rest lt stops =
    named names widths table signal rest lt stops.name
    ∙ ap (λ (o : Option (List ℕ)). name_with (slice_index widths signal) signal o rest) stops.bracket

-- behind the opening bracket
selected : (names : List (List ℕ)) (widths : List ℕ) (table : IsTable names widths) (signal : ℕ) (tail : List ℕ) →
    signal < length widths →
    atom_at names widths (name_at names signal ++ (codes "[" ++ tail))
    ≡ select_at (slice_index widths signal) signal tail
selected names widths table signal tail lt =
    named names widths table signal (codes "[" ++ tail) lt refl
    ∙ ap (λ (o : Option (List ℕ)). name_with (slice_index widths signal) signal o (codes "[" ++ tail))
    (after_text-text (codes "[") tail)

bit_true : (width place : ℕ) → 1 < width → place < width → bit_fits width place ≡ true
unfolding bit_fits
bit_true width place wide has = rw (less_true 1 width wide, less_true place width has) refl

part_true : (width high low : ℕ) → 1 < width → high < width → low ≤ high → part_fits width high low ≡ true
unfolding part_fits
part_true width high low wide has le = rw (bit_true width high wide has, at_most_true low high le) refl

select_bit : (width signal place : ℕ) (rest : List ℕ) → 1 < width → place < width → width ≤ 64 →
    select_at width signal (decimal place ++ (codes "]" ++ rest)) ≡ Some (bit signal place, false, rest)
unfolding select_at
select_bit width signal place rest wide has le =
    rw (
      number_and_rest-decimal place (codes "]" ++ rest) (below_limit place width has le) refl,
      after_text-text (codes "]") rest,
      bit_true width place wide has,
    ) refl

no_bracket : (rest : List ℕ) → after_text (codes "]") (codes ":" ++ rest) ≡ None
unfolding after_text
no_bracket rest = refl

select_part : (width signal high low : ℕ) (rest : List ℕ) → 1 < width → high < width → low ≤ high → width ≤ 64 →
    select_at width signal (decimal high ++ (codes ":" ++ (decimal low ++ (codes "]" ++ rest))))
    ≡ Some (part signal high low, false, rest)
unfolding select_at part_at
select_part width signal high low rest wide has le limit =
    let small : low < width = omega arith in
    let lows = decimal low ++ (codes "]" ++ rest) in
    rw (
      number_and_rest-decimal high (codes ":" ++ lows) (below_limit high width has limit) refl,
      no_bracket lows,
      after_text-text (codes ":") lows,
      number_and_rest-decimal low (codes "]" ++ rest) (below_limit low width small limit) refl,
      after_text-text (codes "]") rest,
      part_true width high low wide has le,
    ) refl

pub bit_reads : (names : List (List ℕ)) (widths : List ℕ) (table : IsTable names widths) (signal place : ℕ)
    (rest : List ℕ) →
    signal < length widths → 1 < slice_index widths signal → place < slice_index widths signal →
    atom_at names widths (name_at names signal ++ (codes "[" ++ (decimal place ++ (codes "]" ++ rest))))
    ≡ Some (bit signal place, false, rest)
bit_reads names widths table signal place rest lt wide has =
    selected names widths table signal (decimal place ++ (codes "]" ++ rest)) lt
    ∙ select_bit (slice_index widths signal) signal place rest wide has (table.bounded signal)

pub part_reads : (names : List (List ℕ)) (widths : List ℕ) (table : IsTable names widths) (signal high low : ℕ)
    (rest : List ℕ) →
    signal < length widths → 1 < slice_index widths signal → high < slice_index widths signal → low ≤ high →
    atom_at names widths (name_at names signal
    ++ (codes "[" ++ (decimal high ++ (codes ":" ++ (decimal low ++ (codes "]" ++ rest))))))
    ≡ Some (part signal high low, false, rest)
part_reads names widths table signal high low rest lt wide has le =
    selected names widths table signal (decimal high ++ (codes ":" ++ (decimal low ++ (codes "]" ++ rest)))) lt
    ∙ select_part (slice_index widths signal) signal high low rest wide has le (table.bounded signal)

-- numbers

plain_true : (number : ℕ) → number < 2 ^ 32 → plain_fits number ≡ true
unfolding plain_fits
plain_true number small = less_true number (2 ^ 32) small

pub plain_reads : (names : List (List ℕ)) (widths : List ℕ) (number : ℕ) (rest : List ℕ) → number < 2 ^ 32 →
    Stops rest →
    atom_at names widths (decimal number ++ rest) ≡ Some (plain number, true, rest)
unfolding atom_at literal_at
plain_reads names widths number rest small stops =
    let less : number < 2 ^ 64 = omega arith in
    rw (
      number_digit number rest less,
      number_and_rest-decimal number rest less stops.name,
      stops.quote,
      plain_true number small,
    ) refl

sized_true : (width value : ℕ) → 1 ≤ width → width ≤ vector_limit → value < 2 ^ width → sized_fits width value ≡ true
unfolding sized_fits
sized_true width value some limit fits =
    rw (at_most_true 1 width some, at_most_true width vector_limit limit, less_true value (2 ^ width) fits) refl

pub sized_at_reads : (width value : ℕ) (rest : List ℕ) → 1 ≤ width → width ≤ vector_limit → value < 2 ^ width →
    value < 2 ^ 64 → prefix_len continues_name rest ≡ 0 →
    sized_at width (decimal value ++ rest) ≡ Some (sized width value, false, rest)
unfolding sized_at
sized_at_reads width value rest some limit fits small end =
    rw (number_and_rest-decimal value rest small end, sized_true width value some limit fits) refl

pub sized_reads : (names : List (List ℕ)) (widths : List ℕ) (width value : ℕ) (rest : List ℕ) → 1 ≤ width →
    width ≤ vector_limit → value < 2 ^ width → value < 2 ^ 64 → Stops rest →
    atom_at names widths (decimal width ++ (codes "'d" ++ (decimal value ++ rest)))
    ≡ Some (sized width value, false, rest)
unfolding atom_at literal_at
sized_reads names widths width value rest some limit fits small stops =
    let less : width < 2 ^ 64 = omega arith in
    let tail = codes "'d" ++ (decimal value ++ rest) in
    rw (
      number_digit width tail less,
      number_and_rest-decimal width tail less refl,
      after_text-text (codes "'d") (decimal value ++ rest),
    )
    (sized_at_reads width value rest some limit fits small stops.name)
