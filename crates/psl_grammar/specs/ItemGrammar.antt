-- Which symbols spell an item of a unit: one rule for each line of the grammar. A unit's items stand in no open phrase.
use Rattle.std.specs.Prelude.{ℕ, ◌+◌, ◌≤◌, List, [], ◌∷◌, ◌++◌, Option, Some, None, IsTrue}
use Rattle.psl_grammar.specs.declared.symbols.Symbol.{Symbol}
use Rattle.psl_grammar.specs.declared.symbols.Symbol.TheVariants as symbol
use Rattle.psl_grammar.specs.RawSere.{RawSere}
use Rattle.psl_grammar.specs.RawProp.{RawProp}
use Rattle.psl_grammar.specs.RawUnit as raw
use Rattle.psl_grammar.specs.RawUnit.{RawItem}
use Rattle.psl_grammar.specs.Symbols.{symbol_at, At, is_name}
use Rattle.psl_grammar.specs.SereGrammar.{IsSeq}
use Rattle.psl_grammar.specs.PropGrammar.{IsRange, IsProp, prop}

-- in how many open phrases a token may stand
abbrev pub open_phrases_limit : ℕ
open_phrases_limit = 64

-- how many tokens an item other than `wire` may have
abbrev pub item_limit : ℕ
item_limit = 2048

-- in the places where any name may stand
abbrev pub AnyName : List Symbol → ℕ → Type 0
AnyName symbols i = IsTrue (is_name (symbol_at symbols i))

-- name { "," name }
pub data AreNames (symbols : List Symbol) : List ℕ → (from to : ℕ) → Type 0 where
  one : {i : ℕ} → AnyName symbols i → AreNames symbols (i ∷ []) i (i + 1)
  more : {names : List ℕ} {i m : ℕ} → AreNames symbols names i m → At symbols m symbol.Comma → AnyName symbols (m + 1)
      → AreNames symbols (names ++ (m + 1) ∷ []) i (m + 2)

-- [ "report" text ] ";"
pub data IsReport (symbols : List Symbol) : Option ℕ → (from to : ℕ) → Type 0 where
  none : {i : ℕ} → At symbols i symbol.Semicolon → IsReport symbols None i (i + 1)
  some : {i : ℕ} → At symbols i symbol.Report → At symbols (i + 1) symbol.Text → At symbols (i + 2) symbol.Semicolon
      → IsReport symbols (Some (i + 1)) i (i + 3)

pub data IsItem (symbols : List Symbol) : RawItem → (from to : ℕ) → Type 0 where
  -- "default" "clock" "=" "posedge" name ";"
  clock : {i : ℕ} → At symbols i symbol.Default → At symbols (i + 1) symbol.Clock → At symbols (i + 2) symbol.Equal
      → At symbols (i + 3) symbol.Posedge → AnyName symbols (i + 4) → At symbols (i + 5) symbol.Semicolon
      → IsItem symbols (raw.clock (i + 4)) i (i + 6)
  -- "default" "clock" "=" "(" "posedge" name ")" ";"
  clock_parens : {i : ℕ} → At symbols i symbol.Default → At symbols (i + 1) symbol.Clock
      → At symbols (i + 2) symbol.Equal
      → At symbols (i + 3) symbol.OpenParenthesis → At symbols (i + 4) symbol.Posedge → AnyName symbols (i + 5)
      → At symbols (i + 6) symbol.CloseParenthesis → At symbols (i + 7) symbol.Semicolon
      → IsItem symbols (raw.clock (i + 5)) i (i + 8)
  -- "wire" name { "," name } ";"
  wire : {names : List ℕ} {i j : ℕ} → At symbols i symbol.Wire → AreNames symbols names (i + 1) j
      → At symbols j symbol.Semicolon → IsItem symbols (raw.wire None names) i (j + 1)
  -- "wire" "[" number ":" number "]" name { "," name } ";"
  vector : {names : List ℕ} {i j : ℕ} → At symbols i symbol.Wire → IsRange symbols (i + 1)
      → AreNames symbols names (i + 6) j → At symbols j symbol.Semicolon
      → IsItem symbols (raw.wire (Some (i + 2, i + 4)) names) i (j + 1)
  -- "sequence" name "=" seq ";"
  sequence : {s : RawSere} {i j : ℕ} → At symbols i symbol.Sequence → AnyName symbols (i + 1)
      → At symbols (i + 2) symbol.Equal → IsSeq symbols open_phrases_limit s (i + 3) j → At symbols j symbol.Semicolon
      → IsItem symbols (raw.RawItem.sequence (i + 1) s) i (j + 1)
  -- "property" name "=" prop ";"
  property : {p : RawProp} {i j : ℕ} → At symbols i symbol.Property → AnyName symbols (i + 1)
      → At symbols (i + 2) symbol.Equal → IsProp symbols open_phrases_limit prop p (i + 3) j
      → At symbols j symbol.Semicolon → IsItem symbols (raw.RawItem.property (i + 1) p) i (j + 1)
  -- "assert" prop [ "report" text ] ";"
  assert : {p : RawProp} {report : Option ℕ} {i m j : ℕ} → At symbols i symbol.Assert
      → IsProp symbols open_phrases_limit prop p (i + 1) m → IsReport symbols report m j
      → IsItem symbols (raw.assert i None p report) i j
  -- name ":" "assert" prop [ "report" text ] ";"
  labelled : {p : RawProp} {report : Option ℕ} {i m j : ℕ} → AnyName symbols i → At symbols (i + 1) symbol.Colon
      → At symbols (i + 2) symbol.Assert → IsProp symbols open_phrases_limit prop p (i + 3) m
      → IsReport symbols report m j → IsItem symbols (raw.assert (i + 2) (Some i) p report) i j

-- an item other than `wire` has no more tokens than the limit
abbrev pub IsShort : RawItem → (from to : ℕ) → Type 0
IsShort (raw.wire range names) from to = Unit {0}
IsShort item from to = to ≤ from + item_limit
