use Rattle.psl_rewrite.proofs.NamedSimple.{named_simple}
use Rattle.psl_rewrite.proofs.laws.a_base_formula_is_in_the_subset.Goals as goal

pub returns : goal.returns
returns c = named_simple
