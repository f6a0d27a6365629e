use Rattle.port_formulas.proofs.Named.{used_below as valid_below}
use Rattle.port_formulas.proofs.Used.{used_ascend, used_below, used_exactly}
use Rattle.port_formulas.proofs.laws.used_places_are_those_of_the_used_signals.Goals as goal

pub returns-clause-ascending : goal.returns-clause-ascending
returns-clause-ascending c = used_ascend

pub returns-clause-below : goal.returns-clause-below
returns-clause-below c = used_below

pub returns-clause-exactly : goal.returns-clause-exactly
returns-clause-exactly c = used_exactly

pub returns-clause-enough : goal.returns-clause-enough
returns-clause-enough c count f below place used = (used_exactly count f place).1 (below place used, used)

pub returns-clause-valid : goal.returns-clause-valid
returns-clause-valid c = valid_below
