-- Where the tokens of a text stand, and which bytes they have, and where its fault is.
use Rattle.std.specs.Prelude.{ℕ, ◌<◌, ◌≤◌, List, length, slice_range}
use Rattle.psl_lexer.specs.Shapes.{IsToken}
use Rattle.psl_lexer.specs.declared.kinds.Token.{Token}
use Rattle.psl_lexer.specs.declared.kinds.LexError.{LexError}
use Rattle.psl_lexer.specs.declared.kinds.LexError.TheVariants as error

-- at least one byte, within the text
abbrev pub LiesWithin : (text : List ℕ) → Token → Type 0
LiesWithin text token = (token.start < token.end) × (token.end ≤ length text)

abbrev pub EndsBefore : (earlier later : Token) → Type 0
EndsBefore earlier later = earlier.end ≤ later.start

-- the bytes of the text from its start to its end are a token of its kind
abbrev pub IsSpelled : (text : List ℕ) → Token → Type 0
IsSpelled text token = IsToken token.kind (slice_range text token.start token.end)

-- its offset is that of one of so many bytes: want of memory is no fault of a text
abbrev pub IsFaultBelow : (count : ℕ) → LexError → Type 0
IsFaultBelow count (error.BadByte offset) = offset < count
IsFaultBelow count (error.LeftOut offset) = offset < count
IsFaultBelow count (error.NameTooLong offset) = offset < count
IsFaultBelow count error.OutOfMemory = ⊥
