use Rattle.unit_conditions.proofs.Units.{unit_labelled}
use Rattle.unit_conditions.proofs.laws.labels_are_different.Goals as goal

pub returns : goal.returns
returns c = unit_labelled
