use Rattle.checker_meaning.proofs.Negation.{has_run}
use Rattle.checker_meaning.proofs.negation_checker_runs.Goals as goal

pub returns : goal.returns
returns c = has_run
