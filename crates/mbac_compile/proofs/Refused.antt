-- Why the circuit of a built formula is refused is why its directive is.
use Rattle.std.proofs.Common.{◌≡◌, ℕ, ◌<◌, ◌≤◌, subst, sym, ap, ◌∙◌}
use Rattle.std.specs.Prelude.{◌↔◌}
use Rattle.psl_model.specs.Formula.{Formula}
use Rattle.psl_rewrite.specs.Base.{Base}
use Rattle.psl_rewrite.specs.BaseForm.{base_form_of}
use Rattle.sequence_cores.specs.Places.{told}
use Rattle.formula_limits.specs.Places.{AreSmall, HasTooManyPlaces}
use Rattle.formula_limits.specs.Registers.{budget_of, register_limit}
use Rattle.formula_limits.specs.Steps.{HasSteps}
use Rattle.property_circuits.specs.Refusals.{IsRefusal}
use Rattle.property_circuits.specs.declared.circuits.CircuitError.{CircuitError}
use Rattle.property_circuits.specs.declared.circuits.CircuitError.TheVariants.{TooManyPlaces, Contradiction}
use Rattle.property_circuits.specs.declared.circuits.CircuitError.TheVariants.{SequenceTooLarge, TooManyRegisters}
use Rattle.property_circuits.specs.declared.circuits.CircuitError.TheVariants.{TooManySteps, OutOfMemory}
use Rattle.mbac_compile.specs.Built.{IsBuilt}
use Rattle.mbac_compile.specs.Refusals.{IsRefused}
use Rattle.mbac_compile.specs.declared.directives.CheckError.TheVariants.{Circuit}

pub refused_so : (f : Formula) (steps_left : ℕ) (error : CircuitError) → IsBuilt f →
    IsRefusal (base_form_of f) steps_left error → IsRefused f steps_left (Circuit error)
refused_so f left (TooManyPlaces sequence places) built h = (built, h)
refused_so f left (Contradiction sequence) built h = (built, h)
refused_so f left (SequenceTooLarge sequence) built h = (built, h)
refused_so f left (TooManyRegisters count) built h = (built, h)
refused_so f left (TooManySteps count) built h = (built, h)
refused_so f left OutOfMemory built h = tt

-- two base formulas that count the same
pub record CountsAs (made own : Base) : Type 0 where
  pub small : AreSmall made ↔ AreSmall own
  pub large : (n p : ℕ) → HasTooManyPlaces made n p ↔ HasTooManyPlaces own n p
  pub budget : budget_of made ≡ budget_of own
  pub steps : (k : ℕ) → HasSteps made k ↔ HasSteps own k

pub refusal_too : (made own : Base) (left : ℕ) (error : CircuitError) → CountsAs made own →
    IsRefusal made left error → IsRefusal own left error
refusal_too made own left (TooManyPlaces n p) same h = (same.large n p).0 h
refusal_too made own left (Contradiction n) same h = h
refusal_too made own left (SequenceTooLarge n) same h = h
refusal_too made own left (TooManyRegisters count) same h = (
  same.small.0 h.0,
  subst (λ (n : ℕ). register_limit < n) same.budget h.1,
  h.2 ∙ ap (λ (n : ℕ). told n) same.budget,
)
refusal_too made own left (TooManySteps count) same h = (
  same.small.0 h.0,
  subst (λ (n : ℕ). n ≤ register_limit) same.budget h.1,
  (h.2.0, (same.steps h.2.0).0 h.2.1, h.2.2, h.2.3),
)
refusal_too made own left OutOfMemory same h = tt

pub counts_too : (made same own : Base) → made ≡ same → CountsAs same own → CountsAs made own
counts_too made same own is counts = subst (λ (b : Base). CountsAs b own) (sym is) counts
