-- Which symbols spell an expression: one rule for each line of the grammar.
--     IsExpr symbols room level e from to    the symbols from `from` up to `to`, which isn't among them, spell e as a
--                                            phrase whose operators outside parentheses bind at least as tightly as the
--                                            level: 0 prefixes, 1 `+ -`, 2 `<< >>`, 3 `< <= > >=`, 4 `== !=`, 5 `&`,
--                                            6 `^`, 7 `|`, 8 `&&`, 9 `||`, 10 `? :`; in it no token stands in more than
--                                            `room` open phrases
use Rattle.std.specs.Prelude.{◌≡◌, ℕ, Bool, suc, ◌+◌, ◌<◌, List, Some, None, IsTrue}
use Rattle.psl_grammar.specs.declared.symbols.Symbol.{Symbol}
use Rattle.psl_grammar.specs.declared.symbols.Symbol.TheVariants.{Name, Number, OpenParenthesis, CloseParenthesis}
use Rattle.psl_grammar.specs.declared.symbols.Symbol.TheVariants.{OpenBracket, CloseBracket, Colon, Question}
use Rattle.psl_grammar.specs.Symbols.{symbol_at, At, after_level, level_at, is_prefix, is_literal}
use Rattle.psl_grammar.specs.RawExpr.{RawExpr, name, literal, unary, binary, choice}

pub data IsExpr (symbols : List Symbol) : (room level : ℕ) → RawExpr → (from to : ℕ) → Type 0 where
  -- name
  whole : {room i : ℕ} → At symbols i Name → IsExpr symbols room 0 (name i None) i (i + 1)
  -- name "[" number "]"
  bit : {room i : ℕ} → At symbols i Name → At symbols (i + 1) OpenBracket → At symbols (i + 2) Number
      → At symbols (i + 3) CloseBracket → IsExpr symbols room 0 (name i (Some (i + 2, None))) i (i + 4)
  -- name "[" number ":" number "]"
  part : {room i : ℕ} → At symbols i Name → At symbols (i + 1) OpenBracket → At symbols (i + 2) Number
      → At symbols (i + 3) Colon → At symbols (i + 4) Number → At symbols (i + 5) CloseBracket
      → IsExpr symbols room 0 (name i (Some (i + 2, Some (i + 4)))) i (i + 6)
  -- number, sized literal, "true" or "false"
  literally : {room i : ℕ} → IsTrue (is_literal (symbol_at symbols i)) → IsExpr symbols room 0 (literal i) i (i + 1)
  -- "(" bool ")"
  parens : {room : ℕ} {e : RawExpr} {i j : ℕ} → At symbols i OpenParenthesis → IsExpr symbols room 10 e (i + 1) j
      → At symbols j CloseParenthesis → IsExpr symbols (suc room) 0 e i (j + 1)
  -- prefix operand
  prefixed : {room : ℕ} {e : RawExpr} {i j : ℕ} → IsTrue (is_prefix (symbol_at symbols i))
      → IsExpr symbols room 0 e (i + 1) j → IsExpr symbols (suc room) 0 (unary i e) i j
  -- left operator right, joined to the left
  joined : {room k : ℕ} {l r : RawExpr} {i m j : ℕ} → k < 9 → IsExpr symbols room (suc k) l i m
      → after_level (symbol_at symbols m) ≡ suc k → IsExpr symbols room k r (m + 1) j
      → IsExpr symbols room (suc k) (binary m l r) i j
  -- test "?" yes ":" no, joined to the right
  chosen : {room : ℕ} {t y n : RawExpr} {i q c j : ℕ} → IsExpr symbols (suc room) 9 t i q → At symbols q Question
      → IsExpr symbols room 10 y (q + 1) c → At symbols c Colon → IsExpr symbols room 10 n (c + 1) j
      → IsExpr symbols (suc room) 10 (choice q t y n) i j
  -- a phrase of one level is one of each looser level
  looser : {room k : ℕ} {e : RawExpr} {i j : ℕ} → IsExpr symbols room k e i j → IsExpr symbols room (suc k) e i j

-- the symbol at a place doesn't go on with a phrase of a level
abbrev pub Ends : List Symbol → (braced : Bool) → (level to : ℕ) → Type 0
Ends symbols braced level to = level < level_at braced symbols to

-- bool, which takes in as many tokens as it can
abbrev pub IsBool : List Symbol → (room : ℕ) → (braced : Bool) → RawExpr → (from to : ℕ) → Type 0
IsBool symbols room braced e from to = IsExpr symbols room 10 e from to × Ends symbols braced 10 to
