-- Why a directive gets no checker. What stands against its form comes before all else: that it is outside the simple
-- subset, and then that it isn't built.
--     IsUnfit f error       the form of f is refused so
--     IsRefused f steps_left error     so is f, where so many steps are left
use Rattle.std.specs.Prelude.{ℕ, ◌≡◌, Some}
use Rattle.psl_model.specs.Formula.{Formula}
use Rattle.simple_subset.specs.Subset.{first_broken, InSubset}
use Rattle.psl_rewrite.specs.BaseForm.{base_form_of}
use Rattle.property_circuits.specs.Refusals.{IsRefusal}
use Rattle.property_circuits.specs.declared.circuits.CircuitError.TheVariants.{OutOfMemory}
use Rattle.mbac_compile.specs.Built.{HasBuiltForm, IsBuilt}
use Rattle.mbac_compile.specs.declared.directives.CheckError.{CheckError}
use Rattle.mbac_compile.specs.declared.directives.CheckError.TheVariants.{Subset, Unbuilt, Circuit}

pub record IsUnbuilt (f : Formula) : Type 0 where
  pub simple : InSubset f
  pub form : ¬ HasBuiltForm f

abbrev pub IsUnfit : Formula → CheckError → Type 0
IsUnfit f (Subset rule) = first_broken f ≡ Some rule.number
IsUnfit f Unbuilt = IsUnbuilt f
IsUnfit f (Circuit error) = ⊥

-- a reason for which the formula is refused; want of memory may come at any time
abbrev pub IsRefused : Formula → (steps_left : ℕ) → CheckError → Type 0
IsRefused f steps_left (Subset rule) = first_broken f ≡ Some rule.number
IsRefused f steps_left Unbuilt = IsUnbuilt f
IsRefused f steps_left (Circuit OutOfMemory) = Unit {0}
IsRefused f steps_left (Circuit error) = IsBuilt f × IsRefusal (base_form_of f) steps_left error
