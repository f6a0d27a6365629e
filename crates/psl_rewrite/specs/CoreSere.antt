-- Core sequences as plain trees.
use Rattle.std.specs.Prelude.{ℕ, ◌+◌}
use Rattle.psl_model.specs.Expr.{Expr}

pub data CoreSere : Type 0 where
  bool : (expr : Expr) → CoreSere
  empty : CoreSere
  concat : (left right : CoreSere) → CoreSere
  fuse : (left right : CoreSere) → CoreSere
  or : (left right : CoreSere) → CoreSere
  both : (left right : CoreSere) → CoreSere
  star : (body : CoreSere) → CoreSere
  power : (body : CoreSere) → (count : ℕ) → CoreSere

-- how many nodes a core sequence has
abbrev pub core_size : CoreSere → ℕ
core_size (bool e) = 1
core_size empty = 1
core_size (concat r s) = 1 + core_size r + core_size s
core_size (fuse r s) = 1 + core_size r + core_size s
core_size (or r s) = 1 + core_size r + core_size s
core_size (both r s) = 1 + core_size r + core_size s
core_size (star r) = 1 + core_size r
core_size (power r k) = 1 + core_size r
