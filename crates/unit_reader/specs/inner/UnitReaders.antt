-- What is read of the items of a unit, and of the unit.
use Rattle.std.specs.Prelude.{ℕ, zero, suc, ◌+◌, nat_eq, List, [], ◌∷◌, ◌++◌, length, Option, Some, None}
use Rattle.psl_lexer.specs.declared.kinds.Token.{Token}
use Rattle.psl_grammar.specs.declared.symbols.Symbol.{Symbol}
use Rattle.psl_grammar.specs.declared.symbols.Symbol.TheVariants as symbol
use Rattle.psl_grammar.specs.RawUnit.{RawItem, RawUnit}
use Rattle.psl_grammar.specs.Units.{Known, symbols_in, known_after, outside}
use Rattle.unit_reader.specs.inner.Steps.{◌>>=◌, need, either_way, is_at, Read}
use Rattle.unit_reader.specs.inner.ItemReaders.{name_here, is_short, item_at}

-- an item that is as short as one must be
unfoldable pub short_at : List Symbol → ℕ → Read RawItem
short_at symbols m = item_at symbols m >>= λ x. need (is_short x.0 m x.1) (Some x)

module _ (text : List ℕ) (tokens : List Token) where
  -- the same, behind items that make these names known
  abbrev pub short_item : Known → ℕ → Read RawItem
  short_item known m = short_at (symbols_in text known tokens) m

  -- items behind those that were read
  unfoldable pub items_from : ℕ → Known → List RawItem → ℕ → Read (List RawItem)
  items_from zero known items m = None
  items_from (suc n) known items m =
      either_way (is_at (outside text tokens) m symbol.CloseBrace) (Some (items, m))
      (short_item known m >>= λ x. items_from n (known_after text tokens known x.0) (items ++ x.0 ∷ []) x.1)

  unfoldable pub items_at : ℕ → Read (List RawItem)
  items_at m = items_from (suc (length tokens)) [] [] m

  unfoldable pub unit_end : List RawItem × ℕ → Option RawUnit
  unit_end items = need (nat_eq (length tokens) (items.1 + 1)) (Some (record { name = 1; items = items.0 }))

  unfoldable pub bound_unit : Option RawUnit
  bound_unit =
      need (is_at (outside text tokens) 2 symbol.OpenParenthesis) (need (name_here (outside text tokens) 3)
      (need (is_at (outside text tokens) 4 symbol.CloseParenthesis)
      (need (is_at (outside text tokens) 5 symbol.OpenBrace)
      (items_at 6 >>= unit_end))))

  unfoldable pub unit_read : Option RawUnit
  unit_read =
      need (is_at (outside text tokens) 0 symbol.Vunit) (need (name_here (outside text tokens) 1)
      (either_way (is_at (outside text tokens) 2 symbol.OpenBrace) (items_at 3 >>= unit_end) bound_unit))
