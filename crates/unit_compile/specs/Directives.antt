-- Which directives are refused. They are judged in their order, each where so many steps are left as the limit leaves
-- behind the directives before.
--     bits_of d                          the bits of registers that the directive's checker may have
--     IsRefusedAt number before d r      the directive with this number is refused so; those before have `before` steps
--     IsTakenAt before d after           it is taken, and with it there are `after` steps
--     FirstRefusal number before ds r    r is the first refusal of these, which are numbered from `number` on
--     AreTaken before ds                 each of these is taken in turn
use Rattle.std.specs.Prelude.{◌≡◌, ◌≢◌, ◌≤◌, ◌⊎◌, ℕ, suc, ◌+◌, ◌-◌, List, [], ◌∷◌}
use Rattle.psl_model.specs.declared.refusals.Refusal.{Refusal}
use Rattle.psl_model.specs.Unit.{Directive}
use Rattle.psl_rewrite.specs.BaseForm.{base_form_of}
use Rattle.formula_limits.specs.Places.{AreSmall}
use Rattle.formula_limits.specs.Registers.{budget_of, register_limit}
use Rattle.formula_limits.specs.Steps.{HasSteps, step_limit}
use Rattle.property_circuits.specs.declared.circuits.CircuitError.TheVariants.{OutOfMemory}
use Rattle.mbac_compile.specs.Built.{IsBuilt}
use Rattle.mbac_compile.specs.Refusals.{IsRefused}
use Rattle.mbac_compile.specs.declared.directives.CheckError.{CheckError}
use Rattle.mbac_compile.specs.declared.directives.CheckError.TheVariants.{Circuit}
use Rattle.unit_compile.specs.Told.{check_refusal}

abbrev pub bits_of : Directive → ℕ
bits_of d = budget_of (base_form_of d.formula)

pub record IsRefusedAt (number before : ℕ) (d : Directive) (r : Refusal) : Type 0 where
  pub error : CheckError
  pub known : error ≢ Circuit OutOfMemory
  pub refused : IsRefused d.formula (step_limit - before) error
  pub telling : r ≡ check_refusal number before error

pub record IsTakenAt (before : ℕ) (d : Directive) (after : ℕ) : Type 0 where
  pub built : IsBuilt d.formula
  pub small : AreSmall (base_form_of d.formula)
  pub registers : bits_of d ≤ register_limit
  pub steps : ℕ
  pub counted : HasSteps (base_form_of d.formula) steps
  pub added : after ≡ before + steps
  pub within : after ≤ step_limit

abbrev pub FirstRefusal : (number before : ℕ) → List Directive → Refusal → Type 0
FirstRefusal number before [] r = ⊥
FirstRefusal number before (d ∷ ds) r =
    IsRefusedAt number before d r ⊎ ((after : ℕ) × IsTakenAt before d after × FirstRefusal (suc number) after ds r)

abbrev pub AreTaken : (before : ℕ) → List Directive → Type 0
AreTaken before [] = Unit {0}
AreTaken before (d ∷ ds) = (after : ℕ) × IsTakenAt before d after × AreTaken after ds
