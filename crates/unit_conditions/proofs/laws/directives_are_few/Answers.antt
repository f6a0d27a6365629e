use Rattle.unit_conditions.proofs.Units.{unit_few}
use Rattle.unit_conditions.proofs.laws.directives_are_few.Goals as goal

pub returns : goal.returns
returns c = unit_few c.tokens_stand_in_order.ensures.few c.a_unit_names_its_tokens_in_order.ensures.few
