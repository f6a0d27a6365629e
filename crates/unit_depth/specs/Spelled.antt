-- Which tokens spell a unit's tree, where it doesn't matter how long the items are, and `room` is the number of open
-- phrases that a token may stand in.
use Rattle.std.specs.Prelude.{◌≡◌, ℕ, ◌+◌, List, [], ◌∷◌, ◌++◌, length, Option, Some, None}
use Rattle.psl_lexer.specs.declared.kinds.Token.{Token}
use Rattle.psl_grammar.specs.declared.symbols.Symbol.{Symbol}
use Rattle.psl_grammar.specs.declared.symbols.Symbol.TheVariants as symbol
use Rattle.psl_grammar.specs.RawSere.{RawSere}
use Rattle.psl_grammar.specs.RawProp.{RawProp}
use Rattle.psl_grammar.specs.RawUnit as raw
use Rattle.psl_grammar.specs.RawUnit.{RawItem, RawUnit}
use Rattle.psl_grammar.specs.Symbols.{At}
use Rattle.psl_grammar.specs.SereGrammar.{IsSeq}
use Rattle.psl_grammar.specs.PropGrammar.{IsProp, prop}
use Rattle.psl_grammar.specs.ItemGrammar.{AnyName, IsReport, IsItem}
use Rattle.psl_grammar.specs.Units.{Known, symbols_in, known_after, outside}

pub data SpellItem (symbols : List Symbol) (room : ℕ) : RawItem → (from to : ℕ) → Type 0 where
  -- an item that has no phrase
  clock : {name i j : ℕ} → IsItem symbols (raw.clock name) i j → SpellItem symbols room (raw.clock name) i j
  wire : {range : Option (ℕ × ℕ)} {names : List ℕ} {i j : ℕ} → IsItem symbols (raw.wire range names) i j
      → SpellItem symbols room (raw.wire range names) i j
  -- "sequence" name "=" seq ";"
  sequence : {s : RawSere} {i j : ℕ} → At symbols i symbol.Sequence → AnyName symbols (i + 1)
      → At symbols (i + 2) symbol.Equal → IsSeq symbols room s (i + 3) j → At symbols j symbol.Semicolon
      → SpellItem symbols room (raw.RawItem.sequence (i + 1) s) i (j + 1)
  -- "property" name "=" prop ";"
  property : {p : RawProp} {i j : ℕ} → At symbols i symbol.Property → AnyName symbols (i + 1)
      → At symbols (i + 2) symbol.Equal → IsProp symbols room prop p (i + 3) j → At symbols j symbol.Semicolon
      → SpellItem symbols room (raw.RawItem.property (i + 1) p) i (j + 1)
  -- "assert" prop [ "report" text ] ";"
  assert : {p : RawProp} {report : Option ℕ} {i m j : ℕ} → At symbols i symbol.Assert
      → IsProp symbols room prop p (i + 1) m → IsReport symbols report m j
      → SpellItem symbols room (raw.assert i None p report) i j
  -- name ":" "assert" prop [ "report" text ] ";"
  labelled : {p : RawProp} {report : Option ℕ} {i m j : ℕ} → AnyName symbols i → At symbols (i + 1) symbol.Colon
      → At symbols (i + 2) symbol.Assert → IsProp symbols room prop p (i + 3) m → IsReport symbols report m j
      → SpellItem symbols room (raw.assert (i + 2) (Some i) p report) i j

-- { item }, and the names that are known behind them
pub data SpellItems (text : List ℕ) (tokens : List Token) (room : ℕ)
    : Known → List RawItem → (from to : ℕ) → Type 0 where
  none : {i : ℕ} → SpellItems text tokens room [] [] i i
  more : {known : Known} {items : List RawItem} {item : RawItem} {i m j : ℕ}
      → SpellItems text tokens room known items i m → SpellItem (symbols_in text known tokens) room item m j
      → SpellItems text tokens room (known_after text tokens known item) (items ++ item ∷ []) i j

pub data SpellUnit (text : List ℕ) (tokens : List Token) (room : ℕ) : RawUnit → Type 0 where
  -- "vunit" name "{" { item } "}"
  plain : {known : Known} {items : List RawItem} {j : ℕ} → At (outside text tokens) 0 symbol.Vunit
      → AnyName (outside text tokens) 1 → At (outside text tokens) 2 symbol.OpenBrace
      → SpellItems text tokens room known items 3 j → At (outside text tokens) j symbol.CloseBrace
      → length tokens ≡ j + 1 → SpellUnit text tokens room (record { name = 1; items = items })
  -- "vunit" name "(" name ")" "{" { item } "}"
  bound : {known : Known} {items : List RawItem} {j : ℕ} → At (outside text tokens) 0 symbol.Vunit
      → AnyName (outside text tokens) 1 → At (outside text tokens) 2 symbol.OpenParenthesis
      → AnyName (outside text tokens) 3 → At (outside text tokens) 4 symbol.CloseParenthesis
      → At (outside text tokens) 5 symbol.OpenBrace → SpellItems text tokens room known items 6 j
      → At (outside text tokens) j symbol.CloseBrace → length tokens ≡ j + 1
      → SpellUnit text tokens room (record { name = 1; items = items })

-- the tokens spell the tree, whatever room that takes
abbrev pub Spell : List ℕ → List Token → RawUnit → Type 0
Spell text tokens unit = (room : ℕ) × SpellUnit text tokens room unit
