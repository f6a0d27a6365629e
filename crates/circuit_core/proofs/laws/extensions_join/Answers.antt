use Rattle.circuit_core.proofs.Growth.{extends_self}
use Rattle.circuit_core.proofs.Joins.{extends_trans, extends_set}
use Rattle.circuit_core.proofs.laws.extensions_join.Goals as goal

pub returns-clause-itself : goal.returns-clause-itself
returns-clause-itself c m = extends_self m

pub returns-clause-twice : goal.returns-clause-twice
returns-clause-twice c x y z first second = extends_trans x y z first second

pub returns-clause-set : goal.returns-clause-set
returns-clause-set c x y z r next first later set = extends_set x y z r next first later set
