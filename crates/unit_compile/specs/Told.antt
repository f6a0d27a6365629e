-- How what is answered for one directive is told: of the directive by its number, and its steps with those of the
-- directives before.
use Rattle.std.specs.Prelude.{ℕ, ◌+◌}
use Rattle.sequence_cores.specs.Places.{told}
use Rattle.property_circuits.specs.declared.circuits.CircuitError.{CircuitError}
use Rattle.property_circuits.specs.declared.circuits.CircuitError.TheVariants as circuit
use Rattle.mbac_compile.specs.declared.directives.CheckError.{CheckError}
use Rattle.mbac_compile.specs.declared.directives.CheckError.TheVariants as check
use Rattle.psl_model.specs.declared.refusals.Refusal.{Refusal}
use Rattle.psl_model.specs.declared.refusals.Refusal.TheVariants as refusal

abbrev pub circuit_refusal : (number before : ℕ) → CircuitError → Refusal
circuit_refusal number before (circuit.TooManyPlaces sequence places) = refusal.TooManyPlaces number sequence places
circuit_refusal number before (circuit.Contradiction sequence) = refusal.Contradiction number sequence
circuit_refusal number before (circuit.SequenceTooLarge sequence) = refusal.SequenceTooLarge number sequence
circuit_refusal number before (circuit.TooManyRegisters count) = refusal.TooManyRegisters number count
circuit_refusal number before (circuit.TooManySteps count) = refusal.TooManySteps number (told (before + count))
circuit_refusal number before circuit.OutOfMemory = refusal.OutOfMemory

abbrev pub check_refusal : (number before : ℕ) → CheckError → Refusal
check_refusal number before (check.Subset rule) = refusal.Subset number rule.number
check_refusal number before check.Unbuilt = refusal.Unbuilt
check_refusal number before (check.Circuit error) = circuit_refusal number before error
