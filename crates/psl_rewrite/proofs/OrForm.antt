-- Which operand of `||` comes first.
use Rattle.std.proofs.Common.{◌≡◌, true, false, ap}
use Rattle.std.specs.Prelude.{if◌then◌else◌}
use Rattle.psl_model.specs.Formula.{Formula}
use Rattle.simple_subset.specs.Subset.{is_boolean}
use Rattle.psl_rewrite.specs.Base.{Base, or_bool}
use Rattle.psl_rewrite.specs.BaseForm.{as_expr, or_form}

pub or_left : (f g : Formula) (left right : Base) → is_boolean f ≡ true →
    or_form f g left right ≡ or_bool (as_expr f) right
or_left f g left right h = ap (λ b. if b then or_bool (as_expr f) right else or_bool (as_expr g) left) h

pub or_other : (f g : Formula) (left right : Base) → is_boolean f ≡ false →
    or_form f g left right ≡ or_bool (as_expr g) left
or_other f g left right h = ap (λ b. if b then or_bool (as_expr f) right else or_bool (as_expr g) left) h
