-- Which formulas checkers are made of, for as long as they aren't made of all.
--     is_built b         circuits are made of each operator of the base formula
--     HasBuiltForm f     the base form of f is built
--     IsBuilt f          f is in the simple subset, and its base form is built
use Rattle.std.specs.Prelude.{Bool, true, false, ◌&&◌, nat_le, IsTrue}
use Rattle.psl_model.specs.Formula.{Formula}
use Rattle.simple_subset.specs.Subset.{InSubset}
use Rattle.psl_rewrite.specs.Base.{Base, bool, and, or_bool, implies, always, next, next_all, next_some, until, event}
use Rattle.psl_rewrite.specs.Base.{event_some, seq, eventually, suffix, abort}
use Rattle.psl_rewrite.specs.BaseForm.{base_form_of}

abbrev pub is_built : Base → Bool
is_built (bool e) = true
is_built (and f g) = is_built f && is_built g
is_built (or_bool e f) = is_built f
is_built (implies e f) = is_built f
is_built (always f) = is_built f
is_built (next s k f) = is_built f
-- no unit has a range that ends before it begins
is_built (next_all s low high f) = nat_le low high && is_built f
is_built (next_some s low high e) = false
is_built (until s f e) = is_built f
is_built (event s on low high f) = false
is_built (event_some s on low high e) = false
is_built (seq r s) = false
is_built (eventually r) = false
is_built (suffix r f) = is_built f
is_built (abort f on) = false

abbrev pub HasBuiltForm : Formula → Type 0
HasBuiltForm f = IsTrue (is_built (base_form_of f))

pub record IsBuilt (f : Formula) : Type 0 where
  pub simple : InSubset f
  pub form : HasBuiltForm f
