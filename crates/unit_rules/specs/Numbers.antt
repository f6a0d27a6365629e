-- The numbers of a unit's text, after IEEE 1364-2005, 3.5: decimals, and literals with a width and a base. `_` between
-- the digits counts for nothing. The digits `x`, `z` and `?` are of no base here.
use Rattle.std.specs.Prelude.{ℕ, ◌+◌, ◌-◌, ◌*◌, ◌^◌, Bool, not, ◌&&◌, ◌||◌, ◌==◌, nat_lt, nat_le, if◌then◌else◌, List}
use Rattle.std.specs.Prelude.{fold, drop, slice_index}
use Rattle.std.specs.List.{list_any, list_all, before_first, after_first}
use Rattle.psl_model.specs.Names.{between}
use Rattle.psl_model.specs.Limits.{vector_limit}
use Rattle.unit_rules.specs.Source.{Source, bytes_at}

-- what a digit counts, and 16 where it is none of any base
abbrev pub digit_of : ℕ → ℕ
digit_of byte =
    if between 48 57 byte then byte - 48
    else if between 97 102 byte then byte - 87
    else if between 65 70 byte then byte - 55
    else 16

abbrev pub is_underscore : ℕ → Bool
is_underscore byte = byte == 95

abbrev pub and_digit : (base value byte : ℕ) → ℕ
and_digit base value byte = if is_underscore byte then value else value * base + digit_of byte

-- the number that digits of a base spell
abbrev pub number_of : (base : ℕ) → List ℕ → ℕ
number_of base digits = fold (and_digit base) 0 digits

-- the number that a decimal token spells
abbrev pub number_at : Source → ℕ → ℕ
number_at s t = number_of 10 (bytes_at s t)

-- the base that a letter names, and 0 where it names none
abbrev pub base_of : ℕ → ℕ
base_of byte =
    if byte == 98 || byte == 66 then 2
    else if byte == 111 || byte == 79 then 8
    else if byte == 100 || byte == 68 then 10
    else if byte == 104 || byte == 72 then 16
    else 0

abbrev pub is_quote : ℕ → Bool
is_quote byte = byte == 39

-- The parts of a literal such as `4'd15`: its width, its base and its digits.
abbrev pub sized_width : List ℕ → ℕ
sized_width bytes = number_of 10 (before_first is_quote bytes)

abbrev pub sized_base : List ℕ → ℕ
sized_base bytes = base_of (slice_index (after_first is_quote bytes) 0)

abbrev pub sized_digits : List ℕ → List ℕ
sized_digits bytes = drop 1 (after_first is_quote bytes)

abbrev pub sized_value : List ℕ → ℕ
sized_value bytes = number_of (sized_base bytes) (sized_digits bytes)

abbrev pub is_digit_of : (base byte : ℕ) → Bool
is_digit_of base byte = is_underscore byte || nat_lt (digit_of byte) base

-- some digit, all of them of the base
abbrev pub are_digits : (base : ℕ) → List ℕ → Bool
are_digits base digits = list_any (λ byte. not (is_underscore byte)) digits && list_all (is_digit_of base) digits

-- the width is one that a vector may have, there are digits, all of them are of the base, and the value fits the width
abbrev pub is_lawful_sized : List ℕ → Bool
is_lawful_sized bytes =
    (nat_le 1 (sized_width bytes) && nat_le (sized_width bytes) vector_limit)
    && (are_digits (sized_base bytes) (sized_digits bytes) && nat_lt (sized_value bytes) (2 ^ sized_width bytes))
