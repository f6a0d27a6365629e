-- This project's own limits, each in one place.
use Rattle.std.specs.Prelude.{ℕ}

-- the most bits of a vector, a literal and an expression in a checker
abbrev pub vector_limit : ℕ
vector_limit = 64

-- the most bits at which an expression is valued
abbrev pub value_limit : ℕ
value_limit = 128

-- the most bytes of a name or a report text in a unit
abbrev pub name_limit : ℕ
name_limit = 255

-- the most parentheses open at any place of an expression's text in a checker
abbrev pub parentheses_limit : ℕ
parentheses_limit = 520

-- the most bytes of a unit's text
abbrev pub unit_text_limit : ℕ
unit_text_limit = 1048576
