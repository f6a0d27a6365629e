-- What is read of expressions. `N` bounds how often a loop turns.
use Rattle.std.specs.Prelude.{ℕ, zero, suc, ◌+◌, Bool, false, nat_eq, nat_lt, List, length, Some, None}
use Rattle.psl_grammar.specs.declared.symbols.Symbol.{Symbol}
use Rattle.psl_grammar.specs.declared.symbols.Symbol.TheVariants as symbol
use Rattle.psl_grammar.specs.Symbols.{symbol_at, level_at, is_prefix, is_literal}
use Rattle.psl_grammar.specs.RawExpr.{RawExpr, name, literal, unary, binary, choice}
use Rattle.unit_reader.specs.inner.Steps.{◌>>=◌, need, either_way, is_at, Read, loop}

module _ (symbols : List Symbol) where
  unfoldable pub part_at : ℕ → Read RawExpr
  part_at i =
      need (is_at symbols (i + 3) symbol.Colon) (need (is_at symbols (i + 4) symbol.Number)
      (need (is_at symbols (i + 5) symbol.CloseBracket) (Some (name i (Some (i + 2, Some (i + 4))), i + 6))))

  unfoldable pub select_at : ℕ → Read RawExpr
  select_at i =
      need (is_at symbols (i + 2) symbol.Number)
      (either_way (is_at symbols (i + 3) symbol.CloseBracket) (Some (name i (Some (i + 2, None)), i + 4)) (part_at i))

  unfoldable pub name_at : ℕ → Read RawExpr
  name_at i = either_way (is_at symbols (i + 1) symbol.OpenBracket) (select_at i) (Some (name i None, i + 1))

  -- an expression in parentheses, by what reads inside
  unfoldable pub paren_with : (choice : ℕ → Read RawExpr) → ℕ → Read RawExpr
  paren_with inside i = inside (i + 1) >>= λ e. need (is_at symbols e.1 symbol.CloseParenthesis) (Some (e.0, e.1 + 1))

  unfoldable pub prefix_with : (operand : ℕ → Read RawExpr) → ℕ → Read RawExpr
  prefix_with operand i = operand (i + 1) >>= λ e. Some (unary i e.0, e.1)

  unfoldable pub operand_with : (operand choice : ℕ → Read RawExpr) → ℕ → Read RawExpr
  operand_with operand inside i =
      either_way (is_at symbols i symbol.Name) (name_at i)
      (either_way (is_literal (symbol_at symbols i)) (Some (literal i, i + 1))
      (either_way (is_at symbols i symbol.OpenParenthesis) (paren_with inside i)
      (need (is_prefix (symbol_at symbols i)) (prefix_with operand i))))

  -- whether the symbol at a place joins more at a level
  abbrev pub joins : (braced : Bool) (level : ℕ) → ℕ → Bool
  joins braced level m = nat_eq (level_at braced symbols m) level

  unfoldable pub join_with : (right : ℕ → Read RawExpr) → RawExpr × ℕ → Read RawExpr
  join_with right l = right (l.1 + 1) >>= λ r. Some (binary l.1 l.0 r.0, r.1)

  -- what operators up to a level join to an operand
  unfoldable pub levels_with : (operand : ℕ → Read RawExpr) (braced : Bool) → ℕ → RawExpr × ℕ → Read RawExpr
  levels_with operand braced zero l = Some l
  levels_with operand braced (suc k) l =
      levels_with operand braced k l
      >>= loop (joins braced (suc k)) (join_with (λ m. operand m >>= levels_with operand braced k))
      (suc (length symbols))

  -- an operand and what operators up to a level join to it
  unfoldable pub joined_with : (operand : ℕ → Read RawExpr) (braced : Bool) (level : ℕ) → ℕ → Read RawExpr
  joined_with operand braced level m = operand m >>= levels_with operand braced level

  -- the branches of a choice behind its test
  unfoldable pub branches_with : (choice : Bool → ℕ → Read RawExpr) (braced : Bool) → RawExpr × ℕ → Read RawExpr
  branches_with inside braced t =
      either_way (is_at symbols t.1 symbol.Question)
      (inside false (t.1 + 1) >>= λ y. need (is_at symbols y.1 symbol.Colon)
      (inside braced (y.1 + 1) >>= λ n. Some (choice t.1 t.0 y.0 n.0, n.1))) (Some t)

  unfoldable pub choice_with : (operand : ℕ → Read RawExpr) (choice : Bool → ℕ → Read RawExpr) (braced : Bool) → ℕ
      → Read RawExpr
  choice_with operand inside braced i = joined_with operand braced 9 i >>= branches_with inside braced

  unfoldable mutual
    -- what is read in so many open phrases less one: nothing is left at 0
    pub operand_at : (opens : ℕ) → ℕ → Read RawExpr
    operand_at zero i = None
    operand_at (suc n) i = operand_with (operand_at n) (choice_at n false) i

    pub choice_at : (opens : ℕ) (braced : Bool) → ℕ → Read RawExpr
    choice_at zero braced i = None
    choice_at (suc n) braced i = choice_with (operand_with (operand_at n) (choice_at n false)) (choice_at n) braced i

  -- the same with so much room
  abbrev pub operand_in : (room : ℕ) → ℕ → Read RawExpr
  operand_in room = operand_with (operand_at room) (choice_at room false)

  abbrev pub choice_in : (room : ℕ) (braced : Bool) → ℕ → Read RawExpr
  choice_in room = choice_with (operand_in room) (choice_at room)

  -- a bool, which takes in as many tokens as it can
  unfoldable pub bool_in : (room : ℕ) (braced : Bool) → ℕ → Read RawExpr
  bool_in room braced i = choice_in room braced i >>= λ e. need (nat_lt 10 (level_at braced symbols e.1)) (Some e)
