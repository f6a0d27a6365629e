-- When a base formula gets no circuit. Places come before registers, and registers before steps.
use Rattle.std.specs.Prelude.{ℕ, ◌≡◌, ◌<◌, ◌≤◌}
use Rattle.psl_rewrite.specs.Base.{Base}
use Rattle.property_circuits.specs.declared.circuits.CircuitError.{CircuitError}
use Rattle.property_circuits.specs.declared.circuits.CircuitError.TheVariants.{TooManyPlaces, Contradiction}
use Rattle.property_circuits.specs.declared.circuits.CircuitError.TheVariants.{SequenceTooLarge, TooManyRegisters}
use Rattle.property_circuits.specs.declared.circuits.CircuitError.TheVariants.{TooManySteps, OutOfMemory}
use Rattle.formula_limits.specs.Places.{AreSmall, HasTooManyPlaces}
use Rattle.formula_limits.specs.Registers.{budget_of, register_limit}
use Rattle.formula_limits.specs.Steps.{HasSteps}
use Rattle.sequence_cores.specs.Places.{told}

abbrev pub HasTooManyRegisters : Base → Type 0
HasTooManyRegisters f = AreSmall f × (register_limit < budget_of f)

-- a reason for which the formula is refused; want of memory may come at any time
abbrev pub IsRefusal : Base → (steps_left : ℕ) → CircuitError → Type 0
IsRefusal f steps_left (TooManyPlaces sequence places) = HasTooManyPlaces f sequence places
-- no formula with a sequence that stands as a formula is built
IsRefusal f steps_left (Contradiction sequence) = ⊥
IsRefusal f steps_left (SequenceTooLarge sequence) = ⊥
IsRefusal f steps_left (TooManyRegisters count) = AreSmall f × (register_limit < budget_of f)
    × (count ≡ told (budget_of f))
IsRefusal f steps_left (TooManySteps count) = AreSmall f × (budget_of f ≤ register_limit)
    × ((k : ℕ) × HasSteps f k × (steps_left < k) × (count ≡ told k))
IsRefusal f steps_left OutOfMemory = Unit {0}
