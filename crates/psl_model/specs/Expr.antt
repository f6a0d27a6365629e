-- Expressions as plain trees: what contracts see behind the wrappers of the code.
use Rattle.std.specs.Prelude.{ℕ, ◌+◌}
use Rattle.psl_model.specs.declared.operators.UnOp.{UnOp}
use Rattle.psl_model.specs.declared.operators.BinOp.{BinOp}

-- The first number of `whole`, `bit` and `part` is a place in a table of signals.
pub data Expr : Type 0 where
  whole : (signal : ℕ) → Expr
  bit : (signal place : ℕ) → Expr
  part : (signal high low : ℕ) → Expr
  plain : (number : ℕ) → Expr
  sized : (width value : ℕ) → Expr
  unary : (op : UnOp) → (operand : Expr) → Expr
  binary : (op : BinOp) → (left right : Expr) → Expr
  choice : (test yes no : Expr) → Expr

-- how many nodes an expression has
abbrev pub expr_size : Expr → ℕ
expr_size (whole s) = 1
expr_size (bit s n) = 1
expr_size (part s h l) = 1
expr_size (plain n) = 1
expr_size (sized w v) = 1
expr_size (unary o a) = 1 + expr_size a
expr_size (binary o a b) = 1 + expr_size a + expr_size b
expr_size (choice t y n) = 1 + expr_size t + expr_size y + expr_size n
