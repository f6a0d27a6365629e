use Rattle.port_conditions.proofs.Kept.{rules_over, formula_allowed, formula_counts, sequences_over, obliges_to}
use Rattle.port_conditions.proofs.Kept.{obliges_back}
use Rattle.port_conditions.proofs.laws.a_formula_over_its_signals_keeps_the_conditions.Goals as goal

pub returns-clause-rules : goal.returns-clause-rules
returns-clause-rules c = rules_over

pub returns-clause-expressions : goal.returns-clause-expressions
returns-clause-expressions c places widths limit f only h =
    let law = c.an_expression_over_its_signals_is_the_same.ensures in
    formula_allowed places widths limit (law.valid places widths) (law.parentheses places) f only h

pub returns-clause-counts : goal.returns-clause-counts
returns-clause-counts c = formula_counts

pub returns-clause-sequences : goal.returns-clause-sequences
returns-clause-sequences c = sequences_over

pub returns-clause-obligations : goal.returns-clause-obligations
returns-clause-obligations c places widths f only =
    let tight = c.a_sequence_over_its_signals_is_the_same.ensures places widths in
    (obliges_to places widths tight f only, obliges_back places widths tight f only)
