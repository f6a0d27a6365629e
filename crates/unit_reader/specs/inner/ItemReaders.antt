-- What is read of items.
use Rattle.std.specs.Prelude.{ℕ, suc, ◌+◌, ◌-◌, Bool, true, nat_le, List, [], ◌∷◌, ◌++◌, length, Option, Some, None}
use Rattle.psl_grammar.specs.declared.symbols.Symbol.{Symbol}
use Rattle.psl_grammar.specs.declared.symbols.Symbol.TheVariants as symbol
use Rattle.psl_grammar.specs.Symbols.{symbol_at, is_name}
use Rattle.psl_grammar.specs.RawSere.{RawSere}
use Rattle.psl_grammar.specs.RawProp.{RawProp}
use Rattle.psl_grammar.specs.RawUnit as raw
use Rattle.psl_grammar.specs.RawUnit.{RawItem}
use Rattle.psl_grammar.specs.ItemGrammar.{item_limit}
use Rattle.unit_reader.specs.inner.Steps.{◌>>=◌, need, either_way, is_at, Read, loop}
use Rattle.unit_reader.specs.inner.FormReaders.{range_end}
use Rattle.unit_reader.specs.inner.PropReaders.{sequence_of, prop_with, prop_at}

-- an item as long as one may be
abbrev pub is_short : RawItem → (from to : ℕ) → Bool
is_short (raw.wire range names) from to = true
is_short item from to = nat_le to (from + item_limit)

module _ (symbols : List Symbol) where
  abbrev pub name_here : ℕ → Bool
  name_here i = is_name (symbol_at symbols i)

  abbrev pub comma_at : ℕ → Bool
  comma_at m = is_at symbols m symbol.Comma

  unfoldable pub name_after : List ℕ × ℕ → Read (List ℕ)
  name_after l = need (name_here (l.1 + 1)) (Some (l.0 ++ (l.1 + 1) ∷ [], l.1 + 2))

  unfoldable pub names_at : ℕ → Read (List ℕ)
  names_at i = need (name_here i) (loop comma_at name_after (suc (length symbols)) (i ∷ [], i + 1))

  -- a whole property, in no open phrase
  unfoldable pub whole_prop : ℕ → Read RawProp
  whole_prop i = prop_with symbols (prop_at symbols 64) 64 i

  abbrev pub as_seq : RawProp × ℕ → Read RawSere
  as_seq p = either_way (is_at symbols (p.1 - 1) symbol.CloseParenthesis) None (sequence_of p.0 >>= λ s. Some (s, p.1))

  unfoldable pub whole_seq : ℕ → Read RawSere
  whole_seq i = whole_prop i >>= as_seq

  unfoldable pub report_at : ℕ → Read (Option ℕ)
  report_at i =
      either_way (is_at symbols i symbol.Semicolon) (Some (None, i + 1))
      (need (is_at symbols i symbol.Report) (need (is_at symbols (i + 1) symbol.Text)
      (need (is_at symbols (i + 2) symbol.Semicolon) (Some (Some (i + 1), i + 3)))))

  unfoldable pub clock_parens_at : ℕ → Read RawItem
  clock_parens_at i =
      need (is_at symbols (i + 3) symbol.OpenParenthesis) (need (is_at symbols (i + 4) symbol.Posedge)
      (need (name_here (i + 5)) (need (is_at symbols (i + 6) symbol.CloseParenthesis)
      (need (is_at symbols (i + 7) symbol.Semicolon) (Some (raw.clock (i + 5), i + 8))))))

  unfoldable pub clock_at : ℕ → Read RawItem
  clock_at i =
      need (is_at symbols (i + 1) symbol.Clock) (need (is_at symbols (i + 2) symbol.Equal)
      (either_way (is_at symbols (i + 3) symbol.Posedge)
      (need (name_here (i + 4)) (need (is_at symbols (i + 5) symbol.Semicolon) (Some (raw.clock (i + 4), i + 6))))
      (clock_parens_at i)))

  unfoldable pub wire_end : Option (ℕ × ℕ) → List ℕ × ℕ → Read RawItem
  wire_end range l = need (is_at symbols l.1 symbol.Semicolon) (Some (raw.wire range l.0, l.1 + 1))

  unfoldable pub wire_at : ℕ → Read RawItem
  wire_at i =
      either_way (is_at symbols (i + 1) symbol.OpenBracket)
      (range_end symbols (i + 1) >>= λ j. names_at j >>= wire_end (Some (i + 2, i + 4)))
      (names_at (i + 1) >>= wire_end None)

  abbrev pub sequence_end : (name : ℕ) → RawSere × ℕ → Read RawItem
  sequence_end name s = need (is_at symbols s.1 symbol.Semicolon) (Some (raw.RawItem.sequence name s.0, s.1 + 1))

  unfoldable pub sequence_at : ℕ → Read RawItem
  sequence_at i =
      need (name_here (i + 1)) (need (is_at symbols (i + 2) symbol.Equal) (whole_seq (i + 3) >>= sequence_end (i + 1)))

  abbrev pub property_end : (name : ℕ) → RawProp × ℕ → Read RawItem
  property_end name p = need (is_at symbols p.1 symbol.Semicolon) (Some (raw.RawItem.property name p.0, p.1 + 1))

  unfoldable pub property_at : ℕ → Read RawItem
  property_at i =
      need (name_here (i + 1)) (need (is_at symbols (i + 2) symbol.Equal) (whole_prop (i + 3) >>= property_end (i + 1)))

  unfoldable pub assert_end : (word : ℕ) (label : Option ℕ) → RawProp × ℕ → Read RawItem
  assert_end word label p = report_at p.1 >>= λ r. Some (raw.assert word label p.0 r.0, r.1)

  unfoldable pub labelled_at : ℕ → Read RawItem
  labelled_at i =
      need (name_here i) (need (is_at symbols (i + 1) symbol.Colon) (need (is_at symbols (i + 2) symbol.Assert)
      (whole_prop (i + 3) >>= assert_end (i + 2) (Some i))))

  unfoldable pub item_at : ℕ → Read RawItem
  item_at i =
      either_way (is_at symbols i symbol.Default) (clock_at i)
      (either_way (is_at symbols i symbol.Wire) (wire_at i)
      (either_way (is_at symbols i symbol.Sequence) (sequence_at i)
      (either_way (is_at symbols i symbol.Property) (property_at i)
      (either_way (is_at symbols i symbol.Assert) (whole_prop (i + 1) >>= assert_end i None) (labelled_at i)))))
