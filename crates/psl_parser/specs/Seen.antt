-- What the grammar sees of each token of a text: a name is what the items before it make of it. An item that declares a
-- name is told by its first two tokens, and ends with its `;`.
use Rattle.std.specs.Prelude.{ℕ, zero, suc, ◌+◌, ◌-◌, Bool, true, false, cond, ◌&&◌, nat_eq, List, [], ◌∷◌, ◌++◌}
use Rattle.std.specs.Prelude.{length, take, slice_index_or, Option, Some, None}
use Rattle.psl_lexer.specs.declared.kinds.Token.{Token}
use Rattle.psl_grammar.specs.declared.symbols.Symbol.{Symbol}
use Rattle.psl_grammar.specs.declared.symbols.Symbol.TheVariants.{SequenceName, PropertyName, Semicolon, Sequence}
use Rattle.psl_grammar.specs.declared.symbols.Symbol.TheVariants.{Property}
use Rattle.psl_grammar.specs.Symbols.{symbol_at, is_name}
use Rattle.psl_grammar.specs.Units.{Known, symbol_in, outside, no_token, name_at}
use Rattle.psl_parser.specs.Depth.{behind_all}

abbrev pub is_semicolon : Symbol → Bool
is_semicolon Semicolon = true
is_semicolon _ = false

-- what an item that begins with the word declares its name as
abbrev pub declared_as : Symbol → Option Symbol
declared_as Sequence = Some SequenceName
declared_as Property = Some PropertyName
declared_as _ = None

module _ (text : List ℕ) (tokens : List Token) where
  -- how many braces are open before a token, and how many tokens of the item stand before it
  abbrev pub way_to : ℕ → ℕ × ℕ
  way_to place = behind_all (take place (outside text tokens))

  -- the first token of the item that a token stands in
  abbrev pub item_at : ℕ → ℕ
  item_at place = place - (way_to place).1

  abbrev pub ends_item : ℕ → Bool
  ends_item place = is_semicolon (symbol_at (outside text tokens) place) && nat_eq (way_to place).0 1

  -- the names that are known behind one more declaration, whose first token is given
  abbrev pub with_declared : (first : ℕ) → Option Symbol → Known → Known
  with_declared first None known = known
  with_declared first (Some meaning) known = cond (is_name (symbol_at (outside text tokens) (first + 1)))
      ((name_at text tokens (first + 1), meaning) ∷ known) known

  -- the names that are known before a token
  abbrev pub known_before : (place : ℕ) → Known
  known_before zero = []
  known_before (suc i) = cond (ends_item i)
      (with_declared (item_at i) (declared_as (symbol_at (outside text tokens) (item_at i))) (known_before i))
      (known_before i)

  abbrev pub seen_at : ℕ → Symbol
  seen_at i = symbol_in text (known_before i) (slice_index_or tokens i no_token)

  -- the symbols of as many tokens
  abbrev pub seen_to : ℕ → List Symbol
  seen_to zero = []
  seen_to (suc i) = seen_to i ++ seen_at i ∷ []

  abbrev pub seen : List Symbol
  seen = seen_to (length tokens)
