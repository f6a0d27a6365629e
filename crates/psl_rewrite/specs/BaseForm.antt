-- The base form of a formula of the simple subset. Each operator has its own variant, over the base forms of its
-- operands; what is sugar over Booleans becomes one Boolean. Outside the subset the base form has no meaning.
--     as_expr f          the expression that a Boolean is
--     base_form_of f     the base form
use Rattle.std.specs.Prelude.{ℕ, Bool, true, false, if◌then◌else◌}
use Rattle.psl_model.specs.Expr.{Expr, unary, binary, sized}
use Rattle.psl_model.specs.declared.operators.UnOp.TheVariants.{Not}
use Rattle.psl_model.specs.declared.operators.BinOp.TheVariants.{Eq, And}
use Rattle.psl_model.specs.Sere as sere
use Rattle.psl_model.specs.Formula as formula
use Rattle.psl_model.specs.declared.formulas.Reach.{Reach}
use Rattle.psl_model.specs.declared.formulas.Reach.TheVariants as reach
use Rattle.psl_meaning.specs.SequenceSugar.{always_true}
use Rattle.simple_subset.specs.Subset.{is_boolean}
use Rattle.psl_rewrite.specs.Base.{Base, bool, and, or_bool, implies, always, next, next_all, next_some, until, event}
use Rattle.psl_rewrite.specs.Base.{event_some, seq, eventually, suffix, abort}

-- `false`
abbrev pub always_false : Expr
always_false = sized 1 0

abbrev pub as_expr : formula.Formula → Expr
as_expr (formula.bool e) = e
as_expr f = always_false

abbrev pub not_expr : Expr → Expr
not_expr e = unary Not e

abbrev pub and_expr : Expr → Expr → Expr
and_expr a b = binary And a b

-- both are true, or both are false
abbrev pub iff_expr : Expr → Expr → Expr
iff_expr a b = binary Eq (unary Not a) (unary Not b)

-- a Boolean operand comes first: the left one where both are Boolean
abbrev pub or_form : formula.Formula → formula.Formula → (left right : Base) → Base
or_form f g left right = if is_boolean f then or_bool (as_expr f) right else or_bool (as_expr g) left

-- r |=> f is {r;true} |-> f
abbrev pub suffix_sere : (later : Bool) → sere.Sere → sere.Sere
suffix_sere false r = r
suffix_sere true r = sere.concat r (sere.bool always_true)

-- never {r} is always ({r} |-> false), and never b is always !b
abbrev pub never_form : formula.Formula → Base
never_form (formula.seq r s) = always (suffix r (bool always_false))
never_form f = always (bool (not_expr (as_expr f)))

-- eventually! b is true until! b
abbrev pub eventually_form : formula.Formula → Base
eventually_form (formula.seq r s) = eventually r
eventually_form f = until true (bool always_true) (as_expr f)

abbrev pub next_form : Reach → Bool → (low high : ℕ) → formula.Formula → Base → Base
next_form reach.One s low high f body = next s low body
next_form reach.All s low high f body = next_all s low high body
next_form reach.Some s low high f body = next_some s low high (as_expr f)

abbrev pub event_form : Reach → Bool → Expr → (low high : ℕ) → formula.Formula → Base → Base
event_form reach.One s on low high f body = event s on low low body
event_form reach.All s on low high f body = event s on low high body
event_form reach.Some s on low high f body = event_some s on low high (as_expr f)

-- the Boolean at which an `until` stops: with the overlap its left side holds there too
abbrev pub stop_of : (overlap : Bool) → formula.Formula → formula.Formula → Expr
stop_of false f g = as_expr g
stop_of true f g = and_expr (as_expr f) (as_expr g)

-- f before g is !g until (f && !g), and with the overlap !g until f
abbrev pub before_form : (strong overlap : Bool) → formula.Formula → formula.Formula → Base
before_form s false f g = until s (bool (not_expr (as_expr g))) (and_expr (as_expr f) (not_expr (as_expr g)))
before_form s true f g = until s (bool (not_expr (as_expr g))) (as_expr f)

abbrev pub base_form_of : formula.Formula → Base
base_form_of (formula.bool e) = bool e
base_form_of (formula.not f) = bool (not_expr (as_expr f))
base_form_of (formula.and f g) = and (base_form_of f) (base_form_of g)
base_form_of (formula.or f g) = or_form f g (base_form_of f) (base_form_of g)
base_form_of (formula.implies f g) = implies (as_expr f) (base_form_of g)
base_form_of (formula.iff f g) = bool (iff_expr (as_expr f) (as_expr g))
base_form_of (formula.seq r s) = seq r s
base_form_of (formula.suffix r later f) = suffix (suffix_sere later r) (base_form_of f)
base_form_of (formula.always f) = always (base_form_of f)
base_form_of (formula.never f) = never_form f
base_form_of (formula.eventually f) = eventually_form f
base_form_of (formula.next s reach low high f) = next_form reach s low high f (base_form_of f)
base_form_of (formula.event on s reach low high f) = event_form reach s on low high f (base_form_of f)
base_form_of (formula.until s overlap f g) = until s (base_form_of f) (stop_of overlap f g)
base_form_of (formula.before s overlap f g) = before_form s overlap f g
base_form_of (formula.abort f on) = abort (base_form_of f) on
