-- What is read of the forms of `next`: the Boolean, and the tokens of the counts.
use Rattle.std.specs.Prelude.{ℕ, ◌+◌, Bool, false, ◌||◌, List, Option, Some, None}
use Rattle.psl_grammar.specs.declared.symbols.Symbol.{Symbol}
use Rattle.psl_grammar.specs.declared.symbols.Symbol.TheVariants as symbol
use Rattle.psl_grammar.specs.RawExpr.{RawExpr}
use Rattle.unit_reader.specs.inner.Steps.{◌>>=◌, need, either_way, is, is_at, Read}
use Rattle.unit_reader.specs.inner.ExprReaders.{paren_with, choice_at}

abbrev pub Form : Type 0
Form = Option RawExpr × Option ℕ × Option ℕ

abbrev pub is_next : Symbol → Bool
is_next s = (is s symbol.Next || is s symbol.NextRange) || (is s symbol.Event || is s symbol.EventRange)

module _ (symbols : List Symbol) where
  -- the end of a count, or of a range
  unfoldable pub count_end : ℕ → Option ℕ
  count_end i =
      need (is_at symbols i symbol.OpenBracket) (need (is_at symbols (i + 1) symbol.Number)
      (need (is_at symbols (i + 2) symbol.CloseBracket) (Some (i + 3))))

  unfoldable pub range_end : ℕ → Option ℕ
  range_end i =
      need (is_at symbols i symbol.OpenBracket) (need (is_at symbols (i + 1) symbol.Number)
      (need (is_at symbols (i + 2) symbol.Colon) (need (is_at symbols (i + 3) symbol.Number)
      (need (is_at symbols (i + 4) symbol.CloseBracket) (Some (i + 5))))))

  unfoldable pub on_in : (room : ℕ) → ℕ → Read RawExpr
  on_in room i = need (is_at symbols i symbol.OpenParenthesis) (paren_with symbols (choice_at symbols room false) i)

  unfoldable pub next_at : ℕ → Read Form
  next_at i =
      either_way (is_at symbols (i + 1) symbol.OpenBracket)
      (count_end (i + 1) >>= λ j. Some ((None, Some (i + 2), None), j)) (Some ((None, None, None), i + 1))

  unfoldable pub next_range_at : ℕ → Read Form
  next_range_at i = range_end (i + 1) >>= λ j. Some ((None, Some (i + 2), Some (i + 4)), j)

  unfoldable pub event_count_at : RawExpr × ℕ → Read Form
  event_count_at e =
      either_way (is_at symbols e.1 symbol.OpenBracket)
      (count_end e.1 >>= λ j. Some ((Some e.0, Some (e.1 + 1), None), j)) (Some ((Some e.0, None, None), e.1))

  unfoldable pub event_range_at : RawExpr × ℕ → Read Form
  event_range_at e = range_end e.1 >>= λ j. Some ((Some e.0, Some (e.1 + 1), Some (e.1 + 3)), j)

  unfoldable pub form_in : (room : ℕ) → ℕ → Read Form
  form_in room i =
      either_way (is_at symbols i symbol.Next) (next_at i)
      (either_way (is_at symbols i symbol.NextRange) (next_range_at i)
      (either_way (is_at symbols i symbol.Event) (on_in room (i + 1) >>= event_count_at)
      (need (is_at symbols i symbol.EventRange) (on_in room (i + 1) >>= event_range_at))))
