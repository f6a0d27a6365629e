use Rattle.psl_model.proofs.Moved.{width_stays, value_stays, valid_stays}
use Rattle.psl_model.proofs.laws.an_expression_reads_its_own_signals.Goals as goal

pub returns : goal.returns
returns c = record { width = width_stays; value = value_stays; valid = valid_stays }
