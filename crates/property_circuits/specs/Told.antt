-- How many steps a base formula has, as a circuit tells it.
--     IsTold f steps    the steps of f are told so
use Rattle.std.specs.Prelude.{ℕ, ◌≡◌}
use Rattle.psl_rewrite.specs.Base.{Base}
use Rattle.formula_limits.specs.Steps.{HasSteps}
use Rattle.sequence_cores.specs.Places.{told}

abbrev pub IsTold : Base → (steps : ℕ) → Type 0
IsTold f steps = (k : ℕ) × HasSteps f k × (steps ≡ told k)
