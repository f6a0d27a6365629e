-- Why a directive gets no checker, and that it gets one.
use Rattle.std.proofs.Common.{◌≡◌, ◌≤◌, ◌+◌, ◌-◌, ℕ, inl, inr, refl, sym, subst, ap, ◌∙◌, arith}
use Rattle.psl_rewrite.specs.BaseForm.{base_form_of}
use Rattle.psl_model.specs.Unit.{Directive}
use Rattle.psl_model.specs.declared.refusals.Refusal.{Refusal}
use Rattle.formula_limits.specs.Places.{AreSmall}
use Rattle.formula_limits.specs.Registers.{register_limit}
use Rattle.formula_limits.specs.Steps.{HasSteps, step_limit}
use Rattle.property_circuits.specs.declared.circuits.CircuitError.TheVariants as circuit
use Rattle.mbac_compile.specs.declared.directives.CheckError.{CheckError}
use Rattle.mbac_compile.specs.declared.directives.CheckError.TheVariants as check
use Rattle.mbac_compile.specs.Built.{IsBuilt}
use Rattle.mbac_compile.specs.Refusals.{IsRefused}
use Rattle.unit_compile.specs.Directives.{bits_of, IsTakenAt}
use Rattle.unit_compile.specs.Told.{check_refusal}
use Rattle.unit_compile.specs.inner.Unmade.{IsUnmade}

pub taken_so : (before steps : ℕ) (d : Directive) → before ≤ step_limit → IsBuilt d.formula →
    HasSteps (base_form_of d.formula) steps → AreSmall (base_form_of d.formula) × (bits_of d ≤ register_limit)
    × (steps ≤ step_limit - before) → IsTakenAt before d (before + steps)
taken_so before steps d fits built counted within = record {
  built = built;
  small = within.0;
  registers = within.1;
  steps = steps;
  counted = counted;
  added = refl;
  within = omega (arith, fits, within.2);
}

refused_so : (number before : ℕ) (d : Directive) (error : CheckError) →
    IsRefused d.formula (step_limit - before) error → IsUnmade number before d (check_refusal number before error)
refused_so number before d (check.Subset rule) h =
    inr (record { error = check.Subset rule; known = λ e. cc e; refused = h; telling = refl })
refused_so number before d check.Unbuilt h =
    inr (record { error = check.Unbuilt; known = λ e. cc e; refused = h; telling = refl })
refused_so number before d (check.Circuit (circuit.TooManyPlaces sequence places)) h =
    inr (record {
      error = check.Circuit (circuit.TooManyPlaces sequence places);
      known = λ e. cc e;
      refused = h;
      telling = refl;
    })
refused_so number before d (check.Circuit (circuit.Contradiction sequence)) h = absurd h.1
refused_so number before d (check.Circuit (circuit.SequenceTooLarge sequence)) h = absurd h.1
refused_so number before d (check.Circuit (circuit.TooManyRegisters count)) h =
    inr (record {
      error = check.Circuit (circuit.TooManyRegisters count);
      known = λ e. cc e;
      refused = h;
      telling = refl;
    })
refused_so number before d (check.Circuit (circuit.TooManySteps count)) h =
    inr (record {
      error = check.Circuit (circuit.TooManySteps count);
      known = λ e. cc e;
      refused = h;
      telling = refl;
    })
refused_so number before d (check.Circuit circuit.OutOfMemory) h = inl refl

pub unmade_so : (number told_number before : ℕ) (d : Directive) (error : CheckError) (r : Refusal) →
    IsRefused d.formula (step_limit - before) error → told_number ≡ number →
    r ≡ check_refusal told_number before error → IsUnmade number before d r
unmade_so number told_number before d error r h same told =
    subst (λ (answer : Refusal). IsUnmade number before d answer)
    (sym (told ∙ ap (λ (n : ℕ). check_refusal n before error) same)) (refused_so number before d error h)
