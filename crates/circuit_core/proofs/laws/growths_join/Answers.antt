use Rattle.circuit_core.proofs.Joins.{grows_none, grows_twice}
use Rattle.circuit_core.proofs.laws.growths_join.Goals as goal

pub returns-clause-none : goal.returns-clause-none
returns-clause-none c m = grows_none m

pub returns-clause-twice : goal.returns-clause-twice
returns-clause-twice c x y z m n first second = grows_twice x y z m n first second
