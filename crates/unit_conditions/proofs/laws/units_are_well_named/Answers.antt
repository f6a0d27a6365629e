use Rattle.unit_conditions.proofs.Units.{unit_name, unit_ports, unit_distinct}
use Rattle.unit_conditions.proofs.laws.units_are_well_named.Goals as goal

pub returns : goal.returns
returns c = record {
  name = unit_name c.tokens_are_spelled.ensures;
  signals = unit_ports c.tokens_are_spelled.ensures;
  distinct = unit_distinct c.tokens_are_spelled.ensures;
}
