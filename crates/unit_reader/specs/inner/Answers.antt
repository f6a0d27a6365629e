-- What an answer of the parser has to do with what a reader gives.
use Rattle.std.specs.Prelude.{◌≡◌, Option, Some, None, Result, Ok, Err}
use Rattle.unit_reader.specs.declared.errors.ParseError.{ParseError}
use Rattle.unit_reader.specs.declared.errors.ParseError.TheVariants.{Syntax, TooDeep, OutOfMemory}

-- where the answer is a fault of the symbols, the reader gives nothing
abbrev pub Halts : {B : Type 0} → ParseError → Option B → Type 0
Halts (Syntax token) o = o ≡ None
Halts (TooDeep token) o = o ≡ None
Halts OutOfMemory o = Unit {0}

-- the answer is what the reader gives, unless memory was wanting
abbrev pub Gives : {A B : Type 0} → (A → B) → Result A ParseError → Option B → Type 0
Gives view (Ok x) o = o ≡ Some (view x)
Gives view (Err error) o = Halts error o
