use Rattle.sequence_tables.proofs.RenamedSteps.{renamed_steps}
use Rattle.sequence_tables.proofs.laws.a_renamed_sequence_has_as_many_steps.Goals as goal

pub returns : goal.returns
returns c f r k keep apart = renamed_steps f keep r apart k
