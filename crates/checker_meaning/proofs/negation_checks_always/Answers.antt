use Rattle.checker_meaning.proofs.negation_checks_always.Goals as goal
use Rattle.checker_meaning.proofs.Negation.{checks}

pub returns : goal.returns
returns c name port = checks c.always_is_weakly_violated.ensures c.always_is_violated.ensures name port
