-- Whether the base form of a formula is built, by the formula's own operator.
use Rattle.std.specs.Prelude.{ℕ, ◌≡◌, Bool, true, false, ◌&&◌, not}
use Rattle.std.proofs.Common.{refl, sym}
use Rattle.std.proofs.lemmas.Bool.{false≢true}
use Rattle.psl_model.specs.Formula as formula
use Rattle.psl_model.specs.Formula.{Formula}
use Rattle.psl_model.specs.declared.formulas.Reach.{Reach}
use Rattle.psl_model.specs.declared.formulas.Reach.TheVariants as reach
use Rattle.simple_subset.specs.Subset.{is_boolean}
use Rattle.psl_rewrite.specs.BaseForm.{base_form_of}
use Rattle.mbac_compile.specs.Built.{is_built}
use Rattle.mbac_compile.specs.inner.Forms.{fits_reach, is_sequence}

pub or_left_built : (f g : Formula) → is_boolean f ≡ true →
    is_built (base_form_of (formula.or f g)) ≡ is_built (base_form_of g)
or_left_built (formula.bool e) g h = refl
or_left_built f g h = absurd (false≢true h)

pub or_right_built : (f g : Formula) → is_boolean f ≡ false →
    is_built (base_form_of (formula.or f g)) ≡ is_built (base_form_of f)
or_right_built (formula.bool e) g h = absurd (false≢true (sym h))
or_right_built f g h = refl

pub next_built : (s : Bool) (r : Reach) (low high : ℕ) (f : Formula) →
    is_built (base_form_of (formula.next s r low high f)) ≡ (fits_reach r low high && is_built (base_form_of f))
next_built s reach.One low high f = refl
next_built s reach.All low high f = refl
next_built s reach.Some low high f = refl

pub never_built : (f : Formula) → is_built (base_form_of (formula.never f)) ≡ true
never_built (formula.seq r s) = refl
never_built f = refl

pub eventually_built : (f : Formula) → is_built (base_form_of (formula.eventually f)) ≡ not (is_sequence f)
eventually_built (formula.seq r s) = refl
eventually_built f = refl
