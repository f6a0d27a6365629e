-- Sequences as they are written. Braces leave no node. A repetition has its mark and its counts: a single one is `low`
-- without `high`.
use Rattle.std.specs.Prelude.{ℕ, ◌+◌, Option}
use Rattle.psl_grammar.specs.RawExpr.{RawExpr}

pub data RawSere : Type 0 where
  bool : (expr : RawExpr) → RawSere
  named : (token : ℕ) → RawSere
  lone : (mark : ℕ) → (low high : Option ℕ) → RawSere
  repeat : (body : RawSere) → (mark : ℕ) → (low high : Option ℕ) → RawSere
  join : (mark : ℕ) → (left right : RawSere) → RawSere

abbrev pub sere_size : RawSere → ℕ
sere_size (bool e) = 1
sere_size (named t) = 1
sere_size (lone m l h) = 1
sere_size (repeat r m l h) = 1 + sere_size r
sere_size (join m r s) = 1 + sere_size r + sere_size s
