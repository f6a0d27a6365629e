-- Base formulas as plain trees.
use Rattle.std.specs.Prelude.{ℕ, ◌+◌, Bool}
use Rattle.psl_model.specs.Expr.{Expr}
use Rattle.psl_model.specs.Sere.{Sere}

pub data Base : Type 0 where
  bool : (expr : Expr) → Base
  and : (left right : Base) → Base
  or_bool : (expr : Expr) → (body : Base) → Base
  implies : (expr : Expr) → (body : Base) → Base
  always : (body : Base) → Base
  next : (strong : Bool) → (count : ℕ) → (body : Base) → Base
  next_all : (strong : Bool) → (low high : ℕ) → (body : Base) → Base
  next_some : (strong : Bool) → (low high : ℕ) → (seen : Expr) → Base
  until : (strong : Bool) → (body : Base) → (stop : Expr) → Base
  event : (strong : Bool) → (on : Expr) → (low high : ℕ) → (body : Base) → Base
  event_some : (strong : Bool) → (on : Expr) → (low high : ℕ) → (seen : Expr) → Base
  seq : (sere : Sere) → (strong : Bool) → Base
  eventually : (sere : Sere) → Base
  suffix : (sere : Sere) → (body : Base) → Base
  abort : (body : Base) → (on : Expr) → Base

-- how many operators of base formulas and leaves a base formula has
abbrev pub base_size : Base → ℕ
base_size (bool e) = 1
base_size (and f g) = 1 + base_size f + base_size g
base_size (or_bool e f) = 1 + base_size f
base_size (implies e f) = 1 + base_size f
base_size (always f) = 1 + base_size f
base_size (next s k f) = 1 + base_size f
base_size (next_all s l h f) = 1 + base_size f
base_size (next_some s l h e) = 1
base_size (until s f e) = 1 + base_size f
base_size (event s b l h f) = 1 + base_size f
base_size (event_some s b l h e) = 1
base_size (seq r s) = 1
base_size (eventually r) = 1
base_size (suffix r f) = 1 + base_size f
base_size (abort f e) = 1 + base_size f
