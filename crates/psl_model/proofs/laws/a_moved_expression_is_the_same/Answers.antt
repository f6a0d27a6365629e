use Rattle.psl_model.proofs.Moved.{width_same, value_same, valid_same, parentheses_same}
use Rattle.psl_model.proofs.laws.a_moved_expression_is_the_same.Goals as goal

pub returns : goal.returns
returns c = record { width = width_same; value = value_same; valid = valid_same; parentheses = parentheses_same }
