-- Symbols by their place, and what each of them does in a phrase.
use Rattle.std.specs.Prelude.{◌≡◌, ℕ, ◌+◌, Bool, true, false, ◌&&◌, cond, List, slice_index_or}
use Rattle.psl_grammar.specs.declared.symbols.Symbol.{Symbol}
use Rattle.psl_grammar.specs.declared.symbols.Symbol.TheVariants.{End, Name, SequenceName, PropertyName, Number}
use Rattle.psl_grammar.specs.declared.symbols.Symbol.TheVariants.{Literal}
use Rattle.psl_grammar.specs.declared.symbols.Symbol.TheVariants.{Inf, OpenBracket, OpenBrace, RepeatOpen, RepeatPlus}
use Rattle.psl_grammar.specs.declared.symbols.Symbol.TheVariants.{GotoOpen, EqualRepeatOpen, Colon, Semicolon, Within}
use Rattle.psl_grammar.specs.declared.symbols.Symbol.TheVariants.{Question, Exclamation, Tilde, Sum, Shift, Order}
use Rattle.psl_grammar.specs.declared.symbols.Symbol.TheVariants.{Equality, And, Caret, Or, AndAnd, OrOr}

-- behind the last one stands the end
abbrev pub symbol_at : List Symbol → ℕ → Symbol
symbol_at symbols place = slice_index_or symbols place End

abbrev pub At : List Symbol → ℕ → Symbol → Type 0
At symbols place symbol = symbol_at symbols place ≡ symbol

-- How tightly a symbol that stands behind an operand goes on with it: 0 for the bracket of a select, 1 to 9 for a
-- binary operator, 10 for `?`, and 11 for what doesn't go on.
abbrev pub after_level : Symbol → ℕ
after_level OpenBracket = 0
after_level Sum = 1
after_level Shift = 2
after_level Order = 3
after_level Equality = 4
after_level And = 5
after_level Caret = 6
after_level Or = 7
after_level AndAnd = 8
after_level OrOr = 9
after_level Question = 10
after_level _ = 11

abbrev pub is_prefix : Symbol → Bool
is_prefix Exclamation = true
is_prefix Tilde = true
is_prefix And = true
is_prefix Or = true
is_prefix Caret = true
is_prefix _ = false

abbrev pub is_literal : Symbol → Bool
is_literal Number = true
is_literal Literal = true
is_literal _ = false

-- a name in the places where any name may stand
abbrev pub is_name : Symbol → Bool
is_name Name = true
is_name SequenceName = true
is_name PropertyName = true
is_name _ = false

-- `&`, `&&` and `|`, which join sequences too
abbrev pub may_join : Symbol → Bool
may_join And = true
may_join AndAnd = true
may_join Or = true
may_join _ = false

-- whether a sequence that is no bool begins with the symbol
abbrev pub begins_sequence : Symbol → Bool
begins_sequence OpenBrace = true
begins_sequence RepeatOpen = true
begins_sequence RepeatPlus = true
begins_sequence SequenceName = true
begins_sequence _ = false

-- whether the symbol at a place joins sequences, where it stands inside braces
abbrev pub joins_sequences : List Symbol → ℕ → Bool
joins_sequences symbols place = may_join (symbol_at symbols place) && begins_sequence (symbol_at symbols (place + 1))

-- how tightly the symbol at a place goes on with a bool: inside braces, one that joins sequences doesn't
abbrev pub level_at : (braced : Bool) → List Symbol → ℕ → ℕ
level_at braced symbols place =
    cond (braced && joins_sequences symbols place) 11 (after_level (symbol_at symbols place))

-- the upper end of a range of counts
abbrev pub is_high : Symbol → Bool
is_high Number = true
is_high Inf = true
is_high _ = false

-- `[->` and `[=`, which begin a repetition of a bool alone
abbrev pub is_pick : Symbol → Bool
is_pick GotoOpen = true
is_pick EqualRepeatOpen = true
is_pick _ = false

-- How tightly a symbol that stands behind a sequence joins it with another: 2 `within`, 3 `&` and `&&`, 4 `|`, 5 `:`,
-- 6 `;`, 0 for what begins a repetition, and 7 for what doesn't go on.
abbrev pub sere_level : Symbol → ℕ
sere_level RepeatOpen = 0
sere_level RepeatPlus = 0
sere_level GotoOpen = 0
sere_level EqualRepeatOpen = 0
sere_level Within = 2
sere_level And = 3
sere_level AndAnd = 3
sere_level Or = 4
sere_level Colon = 5
sere_level Semicolon = 6
sere_level _ = 7
