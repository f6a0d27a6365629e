use Rattle.unit_conditions.proofs.Units.{unit_allowed}
use Rattle.unit_conditions.proofs.laws.expressions_are_valid_and_shallow.Goals as goal

pub returns : goal.returns
returns c = unit_allowed c.expressions_of_a_unit_are_valid.ensures
