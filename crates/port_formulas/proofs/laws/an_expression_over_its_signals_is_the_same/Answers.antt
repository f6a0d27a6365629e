use Rattle.port_formulas.specs.Chosen.{position_in}
use Rattle.port_formulas.proofs.Named.{width_over, value_over, valid_over, parentheses_named}
use Rattle.port_formulas.proofs.laws.an_expression_over_its_signals_is_the_same.Goals as goal

pub returns-clause-width : goal.returns-clause-width
returns-clause-width c = width_over

pub returns-clause-value : goal.returns-clause-value
returns-clause-value c = value_over

pub returns-clause-valid : goal.returns-clause-valid
returns-clause-valid c = valid_over

pub returns-clause-parentheses : goal.returns-clause-parentheses
returns-clause-parentheses c places e = parentheses_named (position_in places) e
