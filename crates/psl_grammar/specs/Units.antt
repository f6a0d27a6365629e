-- Which tokens of a text are a unit. A name is what the items before it make of it.
use Rattle.std.specs.Prelude.{◌≡◌, ℕ, ◌+◌, nat_eq, cond, List, [], ◌∷◌, ◌++◌, length, map, slice_range}
use Rattle.std.specs.Prelude.{slice_index_or}
use Rattle.std.specs.Cmp.Lexicographic.{pointwise}
use Rattle.psl_lexer.specs.declared.kinds.Key.{Key}
use Rattle.psl_lexer.specs.declared.kinds.Key.TheVariants as key
use Rattle.psl_lexer.specs.declared.kinds.Mark.{Mark}
use Rattle.psl_lexer.specs.declared.kinds.Mark.TheVariants as mark
use Rattle.psl_lexer.specs.declared.kinds.Kind.{Kind}
use Rattle.psl_lexer.specs.declared.kinds.Kind.TheVariants as kind
use Rattle.psl_lexer.specs.declared.kinds.Token.{Token}
use Rattle.psl_grammar.specs.declared.symbols.Symbol.{Symbol}
use Rattle.psl_grammar.specs.declared.symbols.Symbol.TheVariants as symbol
use Rattle.psl_grammar.specs.RawUnit as raw
use Rattle.psl_grammar.specs.RawUnit.{RawItem, RawUnit}
use Rattle.psl_grammar.specs.Symbols.{symbol_at, At, is_name}
use Rattle.psl_grammar.specs.ItemGrammar.{AnyName, IsItem, IsShort}

-- ---- what the grammar sees of a token

abbrev pub word_symbol : Key → Symbol
word_symbol key.Vunit = symbol.Vunit
word_symbol key.Wire = symbol.Wire
word_symbol key.Default = symbol.Default
word_symbol key.Clock = symbol.Clock
word_symbol key.Posedge = symbol.Posedge
word_symbol key.Sequence = symbol.Sequence
word_symbol key.Property = symbol.Property
word_symbol key.Assert = symbol.Assert
word_symbol key.Report = symbol.Report
word_symbol key.Always = symbol.Always
word_symbol key.Never = symbol.Always
word_symbol key.True = symbol.Literal
word_symbol key.False = symbol.Literal
word_symbol key.Inf = symbol.Inf
word_symbol key.Abort = symbol.Abort
word_symbol key.Within = symbol.Within
word_symbol key.EventuallyStrong = symbol.EventuallyStrong
word_symbol key.Until = symbol.Until
word_symbol key.UntilStrong = symbol.Until
word_symbol key.UntilOverlapping = symbol.Until
word_symbol key.UntilStrongOverlapping = symbol.Until
word_symbol key.Before = symbol.Until
word_symbol key.BeforeStrong = symbol.Until
word_symbol key.BeforeOverlapping = symbol.Until
word_symbol key.BeforeStrongOverlapping = symbol.Until
word_symbol key.Next = symbol.Next
word_symbol key.NextStrong = symbol.Next
word_symbol key.NextA = symbol.NextRange
word_symbol key.NextAStrong = symbol.NextRange
word_symbol key.NextE = symbol.NextRange
word_symbol key.NextEStrong = symbol.NextRange
word_symbol key.NextEvent = symbol.Event
word_symbol key.NextEventStrong = symbol.Event
word_symbol key.NextEventA = symbol.EventRange
word_symbol key.NextEventAStrong = symbol.EventRange
word_symbol key.NextEventE = symbol.EventRange
word_symbol key.NextEventEStrong = symbol.EventRange

abbrev pub mark_symbol : Mark → Symbol
mark_symbol mark.OpenBrace = symbol.OpenBrace
mark_symbol mark.CloseBrace = symbol.CloseBrace
mark_symbol mark.OpenParenthesis = symbol.OpenParenthesis
mark_symbol mark.CloseParenthesis = symbol.CloseParenthesis
mark_symbol mark.OpenBracket = symbol.OpenBracket
mark_symbol mark.CloseBracket = symbol.CloseBracket
mark_symbol mark.RepeatOpen = symbol.RepeatOpen
mark_symbol mark.RepeatPlus = symbol.RepeatPlus
mark_symbol mark.GotoOpen = symbol.GotoOpen
mark_symbol mark.EqualRepeatOpen = symbol.EqualRepeatOpen
mark_symbol mark.Semicolon = symbol.Semicolon
mark_symbol mark.Colon = symbol.Colon
mark_symbol mark.Comma = symbol.Comma
mark_symbol mark.Exclamation = symbol.Exclamation
mark_symbol mark.Tilde = symbol.Tilde
mark_symbol mark.And = symbol.And
mark_symbol mark.AndAnd = symbol.AndAnd
mark_symbol mark.Or = symbol.Or
mark_symbol mark.OrOr = symbol.OrOr
mark_symbol mark.Caret = symbol.Caret
mark_symbol mark.EqualEqual = symbol.Equality
mark_symbol mark.NotEqual = symbol.Equality
mark_symbol mark.Less = symbol.Order
mark_symbol mark.LessEqual = symbol.Order
mark_symbol mark.Greater = symbol.Order
mark_symbol mark.GreaterEqual = symbol.Order
mark_symbol mark.ShiftLeft = symbol.Shift
mark_symbol mark.ShiftRight = symbol.Shift
mark_symbol mark.Plus = symbol.Sum
mark_symbol mark.Minus = symbol.Sum
mark_symbol mark.Question = symbol.Question
mark_symbol mark.Arrow = symbol.Arrow
mark_symbol mark.DoubleArrow = symbol.DoubleArrow
mark_symbol mark.SuffixOverlapping = symbol.Suffix
mark_symbol mark.SuffixNext = symbol.Suffix
mark_symbol mark.Equal = symbol.Equal

-- where a name means this
abbrev pub kind_symbol : (meaning : Symbol) → Kind → Symbol
kind_symbol meaning (kind.Word word) = word_symbol word
kind_symbol meaning (kind.Mark sign) = mark_symbol sign
kind_symbol meaning kind.Name = meaning
kind_symbol meaning kind.Number = symbol.Number
kind_symbol meaning kind.Sized = symbol.Literal
kind_symbol meaning kind.Text = symbol.Text

-- ---- names: the bytes of those that items declared, each with the symbol that it is behind its item

abbrev pub Known : Type 0
Known = List (List ℕ × Symbol)

abbrev pub meaning_of : Known → (name : List ℕ) → Symbol
meaning_of [] name = symbol.Name
meaning_of (d ∷ ds) name = cond (pointwise nat_eq d.0 name) d.1 (meaning_of ds name)

abbrev pub bytes_of : (text : List ℕ) → Token → List ℕ
bytes_of text token = slice_range text token.start token.«end»

abbrev pub symbol_in : (text : List ℕ) → Known → Token → Symbol
symbol_in text known token = kind_symbol (meaning_of known (bytes_of text token)) token.kind

abbrev pub symbols_in : (text : List ℕ) → Known → List Token → List Symbol
symbols_in text known tokens = map (symbol_in text known) tokens

-- what stands behind the last token
abbrev pub no_token : Token
no_token = record { kind = kind.Text; start = 0; «end» = 0 }

abbrev pub name_at : (text : List ℕ) → List Token → ℕ → List ℕ
name_at text tokens n = bytes_of text (slice_index_or tokens n no_token)

-- behind its item a declared name has this meaning, also where it had another
abbrev pub learned : (text : List ℕ) → List Token → Known → (name : ℕ) → Symbol → Known
learned text tokens known name meaning =
    cond (is_name (symbol_at (symbols_in text known tokens) name)) ((name_at text tokens name, meaning) ∷ known) known

abbrev pub known_after : (text : List ℕ) → List Token → Known → RawItem → Known
known_after text tokens known (raw.RawItem.sequence name body) = learned text tokens known name symbol.SequenceName
known_after text tokens known (raw.RawItem.property name body) = learned text tokens known name symbol.PropertyName
known_after text tokens known item = known

-- ---- items and units

-- { item }, and the names that are known behind them
pub data AreItems (text : List ℕ) (tokens : List Token) : Known → List RawItem → (from to : ℕ) → Type 0 where
  none : {i : ℕ} → AreItems text tokens [] [] i i
  more : {known : Known} {items : List RawItem} {item : RawItem} {i m j : ℕ} → AreItems text tokens known items i m
      → IsItem (symbols_in text known tokens) item m j → IsShort item m j
      → AreItems text tokens (known_after text tokens known item) (items ++ item ∷ []) i j

-- the tokens outside of items
abbrev pub outside : (text : List ℕ) → List Token → List Symbol
outside text tokens = symbols_in text [] tokens

pub data IsUnit (text : List ℕ) (tokens : List Token) : RawUnit → Type 0 where
  -- "vunit" name "{" { item } "}"
  plain : {known : Known} {items : List RawItem} {j : ℕ} → At (outside text tokens) 0 symbol.Vunit
      → AnyName (outside text tokens) 1 → At (outside text tokens) 2 symbol.OpenBrace
      → AreItems text tokens known items 3 j → At (outside text tokens) j symbol.CloseBrace → length tokens ≡ j + 1
      → IsUnit text tokens (record { name = 1; items = items })
  -- "vunit" name "(" name ")" "{" { item } "}"
  bound : {known : Known} {items : List RawItem} {j : ℕ} → At (outside text tokens) 0 symbol.Vunit
      → AnyName (outside text tokens) 1 → At (outside text tokens) 2 symbol.OpenParenthesis
      → AnyName (outside text tokens) 3 → At (outside text tokens) 4 symbol.CloseParenthesis
      → At (outside text tokens) 5 symbol.OpenBrace → AreItems text tokens known items 6 j
      → At (outside text tokens) j symbol.CloseBrace → length tokens ≡ j + 1
      → IsUnit text tokens (record { name = 1; items = items })
