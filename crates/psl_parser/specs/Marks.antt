-- What symbols do to the phrases that are open where they stand.
use Rattle.std.specs.Prelude.{ℕ, Bool, true, false, cond, List}
use Rattle.psl_grammar.specs.declared.symbols.Symbol.{Symbol}
use Rattle.psl_grammar.specs.declared.symbols.Symbol.TheVariants.{Name, SequenceName, PropertyName, Number, Literal}
use Rattle.psl_grammar.specs.declared.symbols.Symbol.TheVariants.{OpenParenthesis, CloseParenthesis, OpenBracket}
use Rattle.psl_grammar.specs.declared.symbols.Symbol.TheVariants.{CloseBracket, OpenBrace, CloseBrace, RepeatOpen}
use Rattle.psl_grammar.specs.declared.symbols.Symbol.TheVariants.{RepeatPlus, GotoOpen, EqualRepeatOpen, Colon}
use Rattle.psl_grammar.specs.declared.symbols.Symbol.TheVariants.{Semicolon, Report, Exclamation, Question, Next}
use Rattle.psl_grammar.specs.declared.symbols.Symbol.TheVariants.{NextRange, Event, EventRange, Until, Suffix, Arrow}
use Rattle.psl_grammar.specs.declared.symbols.Symbol.TheVariants.{DoubleArrow, Sum, Shift, Order, Equality, And, Caret}
use Rattle.psl_grammar.specs.declared.symbols.Symbol.TheVariants.{Or, AndAnd, OrOr, Tilde, Always, EventuallyStrong}
use Rattle.psl_grammar.specs.Symbols.{symbol_at, joins_sequences}

abbrev pub opens_bracket : Symbol → Bool
opens_bracket OpenParenthesis = true
opens_bracket OpenBrace = true
opens_bracket OpenBracket = true
opens_bracket RepeatOpen = true
opens_bracket GotoOpen = true
opens_bracket EqualRepeatOpen = true
opens_bracket _ = false

abbrev pub closes_bracket : Symbol → Bool
closes_bracket CloseParenthesis = true
closes_bracket CloseBrace = true
closes_bracket CloseBracket = true
closes_bracket _ = false

-- the last symbol of an operand, but for the brackets of a `next` form and for a `!` behind a sequence
abbrev pub ends_operand : Symbol → Bool
ends_operand Name = true
ends_operand SequenceName = true
ends_operand PropertyName = true
ends_operand Number = true
ends_operand Literal = true
ends_operand RepeatPlus = true
ends_operand CloseParenthesis = true
ends_operand CloseBrace = true
ends_operand CloseBracket = true
ends_operand _ = false

-- How loosely a symbol behind an operand joins it with what follows: 1 to 10 as the levels of expressions, 11 what goes
-- on with a sequence, and `abort`, 12 `until` and `before`, 13 `|->` and `|=>`, 14 `->` and `<->`, 15 `;` and `report`.
abbrev pub loose : Symbol → ℕ
loose OpenBracket = 0
loose Exclamation = 0
loose Sum = 1
loose Shift = 2
loose Order = 3
loose Equality = 4
loose And = 5
loose Caret = 6
loose Or = 7
loose AndAnd = 8
loose OrOr = 9
loose Question = 10
loose Until = 12
loose Suffix = 13
loose Arrow = 14
loose DoubleArrow = 14
loose Semicolon = 15
loose Report = 15
loose _ = 11

-- `&`, `&&` and `|` before a sequence that is no bool join sequences
abbrev pub looseness : List Symbol → ℕ → ℕ
looseness symbols place = cond (joins_sequences symbols place) 11 (loose (symbol_at symbols place))

-- the symbols that a phrase begins with in some place
abbrev pub may_begin : Symbol → Bool
may_begin Name = true
may_begin SequenceName = true
may_begin PropertyName = true
may_begin Number = true
may_begin Literal = true
may_begin RepeatOpen = true
may_begin RepeatPlus = true
may_begin OpenParenthesis = true
may_begin OpenBrace = true
may_begin Exclamation = true
may_begin Tilde = true
may_begin And = true
may_begin Caret = true
may_begin Or = true
may_begin Always = true
may_begin EventuallyStrong = true
may_begin Next = true
may_begin NextRange = true
may_begin Event = true
may_begin EventRange = true
may_begin _ = false

abbrev pub is_open_brace : Symbol → Bool
is_open_brace OpenBrace = true
is_open_brace _ = false

abbrev pub is_open_parenthesis : Symbol → Bool
is_open_parenthesis OpenParenthesis = true
is_open_parenthesis _ = false

abbrev pub is_close_parenthesis : Symbol → Bool
is_close_parenthesis CloseParenthesis = true
is_close_parenthesis _ = false

abbrev pub is_exclamation : Symbol → Bool
is_exclamation Exclamation = true
is_exclamation _ = false

abbrev pub is_question : Symbol → Bool
is_question Question = true
is_question _ = false

abbrev pub is_colon : Symbol → Bool
is_colon Colon = true
is_colon _ = false

abbrev pub is_number : Symbol → Bool
is_number Number = true
is_number _ = false

abbrev pub is_open_bracket : Symbol → Bool
is_open_bracket OpenBracket = true
is_open_bracket _ = false

abbrev pub is_close_bracket : Symbol → Bool
is_close_bracket CloseBracket = true
is_close_bracket _ = false

-- the words of `next` alone
abbrev pub is_next : Symbol → Bool
is_next Next = true
is_next NextRange = true
is_next _ = false

-- the words of `next_event`
abbrev pub is_event : Symbol → Bool
is_event Event = true
is_event EventRange = true
is_event _ = false
