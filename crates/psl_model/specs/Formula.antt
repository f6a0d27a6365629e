-- Formulas as plain trees.
use Rattle.std.specs.Prelude.{ℕ, ◌+◌, Bool}
use Rattle.psl_model.specs.Expr.{Expr}
use Rattle.psl_model.specs.Sere.{Sere}
use Rattle.psl_model.specs.declared.formulas.Reach.{Reach}

-- In `suffix`, `later` is `|=>`, which starts the body a cycle after the sequence's end.
pub data Formula : Type 0 where
  bool : (expr : Expr) → Formula
  not : (body : Formula) → Formula
  and : (left right : Formula) → Formula
  or : (left right : Formula) → Formula
  implies : (left right : Formula) → Formula
  iff : (left right : Formula) → Formula
  seq : (sere : Sere) → (strong : Bool) → Formula
  suffix : (sere : Sere) → (later : Bool) → (body : Formula) → Formula
  always : (body : Formula) → Formula
  never : (body : Formula) → Formula
  eventually : (body : Formula) → Formula
  next : (strong : Bool) → (reach : Reach) → (low high : ℕ) → (body : Formula) → Formula
  event : (on : Expr) → (strong : Bool) → (reach : Reach) → (low high : ℕ) → (body : Formula) → Formula
  until : (strong overlap : Bool) → (left right : Formula) → Formula
  before : (strong overlap : Bool) → (left right : Formula) → Formula
  abort : (body : Formula) → (on : Expr) → Formula

-- how many operators of formulas and leaves a formula has
abbrev pub formula_size : Formula → ℕ
formula_size (bool e) = 1
formula_size (not f) = 1 + formula_size f
formula_size (and f g) = 1 + formula_size f + formula_size g
formula_size (or f g) = 1 + formula_size f + formula_size g
formula_size (implies f g) = 1 + formula_size f + formula_size g
formula_size (iff f g) = 1 + formula_size f + formula_size g
formula_size (seq r s) = 1
formula_size (suffix r l f) = 1 + formula_size f
formula_size (always f) = 1 + formula_size f
formula_size (never f) = 1 + formula_size f
formula_size (eventually f) = 1 + formula_size f
formula_size (next s r l h f) = 1 + formula_size f
formula_size (event e s r l h f) = 1 + formula_size f
formula_size (until s o f g) = 1 + formula_size f + formula_size g
formula_size (before s o f g) = 1 + formula_size f + formula_size g
formula_size (abort f e) = 1 + formula_size f
