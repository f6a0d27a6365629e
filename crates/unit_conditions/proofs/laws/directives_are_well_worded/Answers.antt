use Rattle.unit_conditions.proofs.Units.{unit_labels, unit_reports}
use Rattle.unit_conditions.proofs.laws.directives_are_well_worded.Goals as goal

pub returns : goal.returns
returns c = record {
  labels = unit_labels c.tokens_are_spelled.ensures;
  reports = unit_reports c.tokens_are_spelled.ensures;
}
