use Rattle.sequence_matches.proofs.Growths.{within_twice}
use Rattle.sequence_matches.proofs.laws.growths_within_join.Goals as goal

pub returns-clause-twice : goal.returns-clause-twice
returns-clause-twice c x y z m n first second = within_twice x y z m n first second
