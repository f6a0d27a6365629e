use Rattle.symbol_alphabet.proofs.Labels.{same_decides}
use Rattle.symbol_alphabet.proofs.laws.the_same_expressions_are_equal.Goals as goal

pub returns : goal.returns
returns c a b = same_decides a b
