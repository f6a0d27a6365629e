-- Sequences (sequential extended regular expressions) as plain trees.
use Rattle.std.specs.Prelude.{ℕ, ◌+◌, Option}
use Rattle.psl_model.specs.Expr.{Expr}

-- `both` is `&&` and `meet` is `&`. A missing upper count is `inf`.
pub data Sere : Type 0 where
  bool : (expr : Expr) → Sere
  concat : (left right : Sere) → Sere
  fuse : (left right : Sere) → Sere
  or : (left right : Sere) → Sere
  both : (left right : Sere) → Sere
  meet : (left right : Sere) → Sere
  within : (left right : Sere) → Sere
  repeat : (body : Sere) → (low : ℕ) → (high : Option ℕ) → Sere
  goto : (expr : Expr) → (low : ℕ) → (high : Option ℕ) → Sere
  equal : (expr : Expr) → (low : ℕ) → (high : Option ℕ) → Sere

-- how many operators of sequences and leaves a sequence has
abbrev pub sere_size : Sere → ℕ
sere_size (bool e) = 1
sere_size (concat a b) = 1 + sere_size a + sere_size b
sere_size (fuse a b) = 1 + sere_size a + sere_size b
sere_size (or a b) = 1 + sere_size a + sere_size b
sere_size (both a b) = 1 + sere_size a + sere_size b
sere_size (meet a b) = 1 + sere_size a + sere_size b
sere_size (within a b) = 1 + sere_size a + sere_size b
sere_size (repeat a l h) = 1 + sere_size a
sere_size (goto e l h) = 1
sere_size (equal e l h) = 1
