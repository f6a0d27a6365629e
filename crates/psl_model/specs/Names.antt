-- What a name may be: this project's own spelling, a part of IEEE 1850-2010, 4.2.
use Rattle.std.specs.Prelude.{◌≢◌, ℕ, ◌≤◌, Bool, true, nat_eq, nat_le, ◌==◌, ◌&&◌, ◌||◌, List, [], ◌∷◌, length, codes}
use Rattle.std.specs.Prelude.{IsTrue, Contains}
use Rattle.std.specs.List.{list_all, starts_with}
use Rattle.psl_model.specs.Limits.{name_limit}
use Rattle.psl_model.specs.Reserved.{language_words, left_out_words, verilog_words}

-- the byte lies between two others, both included
abbrev pub between : (low high byte : ℕ) → Bool
between low high byte = nat_le low byte && nat_le byte high

-- a letter of the Latin alphabet or `_`
abbrev pub begins_name : ℕ → Bool
begins_name byte = between 97 122 byte || between 65 90 byte || (byte == 95)

-- one of these, a digit or `$`
abbrev pub continues_name : ℕ → Bool
continues_name byte = begins_name byte || between 48 57 byte || (byte == 36)

abbrev pub IsIdentifier : List ℕ → Type 0
IsIdentifier [] = ⊥
IsIdentifier (byte ∷ bytes) = IsTrue (begins_name byte) × IsTrue (list_all continues_name bytes)

-- the names that checkers keep for themselves
abbrev pub checker_prefix : List ℕ
checker_prefix = codes "mbac_"

-- a name that a unit may use
pub record IsUsableName (name : List ℕ) : Type 0 where
  pub identifier : IsIdentifier name
  pub short : length name ≤ name_limit
  pub no_prefix : starts_with nat_eq name checker_prefix ≢ true
  pub no_word : ¬ Contains language_words name
  pub no_left_out_word : ¬ Contains left_out_words name
  pub no_verilog_word : ¬ Contains verilog_words name

-- the bytes of a report text: printable ASCII, but for the quote and the backslash
abbrev pub is_report_byte : ℕ → Bool
is_report_byte byte = between 32 33 byte || between 35 91 byte || between 93 126 byte

-- a report text that a checker shows
pub record IsReport (text : List ℕ) : Type 0 where
  pub not_empty : text ≢ []
  pub short : length text ≤ name_limit
  pub printable : IsTrue (list_all is_report_byte text)
