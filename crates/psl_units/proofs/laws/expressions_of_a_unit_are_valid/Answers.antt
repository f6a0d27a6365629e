use Rattle.psl_units.proofs.ValidUnits.{unit_valid}
use Rattle.psl_units.proofs.laws.expressions_of_a_unit_are_valid.Goals as goal

pub returns : goal.returns
returns c = λ s raw p. unit_valid s raw p
