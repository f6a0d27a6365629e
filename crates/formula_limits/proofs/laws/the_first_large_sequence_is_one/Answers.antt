use Rattle.formula_limits.proofs.One.{one_large, small_is_not_large}
use Rattle.formula_limits.proofs.laws.the_first_large_sequence_is_one.Goals as goal

pub returns-clause-one : goal.returns-clause-one
returns-clause-one c = one_large

pub returns-clause-none : goal.returns-clause-none
returns-clause-none c = small_is_not_large
