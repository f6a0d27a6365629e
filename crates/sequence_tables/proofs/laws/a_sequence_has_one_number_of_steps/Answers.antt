use Rattle.sequence_tables.proofs.Steps.{one_number}
use Rattle.sequence_tables.proofs.laws.a_sequence_has_one_number_of_steps.Goals as goal

pub returns : goal.returns
returns c r k l a b = one_number r k l a b
