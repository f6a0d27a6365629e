use Rattle.std.proofs.Common.{ℕ, ◌+◌, List, length, ap}
use Rattle.psl_model.specs.Sere.{Sere}
use Rattle.psl_model.specs.Uses.{formula_uses, used_places}
use Rattle.port_formulas.specs.Chosen.{UsesOnly, position_in}
use Rattle.mbac_compile.specs.Units.{expression_parentheses_limit}
use Rattle.mbac_compile.proofs.Counts.{same_small, same_large, same_registers}
use Rattle.mbac_compile.proofs.Steps.{same_steps}
use Rattle.mbac_compile.proofs.laws.a_built_formula_counts_as_its_base_form.Goals as goal

pub returns-clause-small : goal.returns-clause-small
returns-clause-small c places f =
    same_small (position_in places) (c.a_sequence_over_its_signals_counts_the_same.ensures.places places) f

pub returns-clause-too_many_places : goal.returns-clause-too_many_places
returns-clause-too_many_places c places f n p =
    same_large (position_in places) (c.a_sequence_over_its_signals_counts_the_same.ensures.places places) f n p

pub returns-clause-budget : goal.returns-clause-budget
returns-clause-budget c places f =
    ap (λ (n : ℕ). 1 + n)
    (same_registers (position_in places) (c.a_sequence_over_its_signals_counts_the_same.ensures.places places) f)

pub returns-clause-steps : goal.returns-clause-steps
returns-clause-steps c widths f k has =
    let places : List ℕ = used_places (length widths) f in
    let uses : UsesOnly places (λ signal. formula_uses signal f) =
    c.used_places_are_those_of_the_used_signals.ensures.enough (length widths) f
    (λ place used. c.an_allowed_formula_uses_signals_of_its_table.ensures widths expression_parentheses_limit f place
    has used) in
    same_steps places
    (λ (r : Sere) (n : ℕ) u.
    let law = c.a_sequence_over_its_signals_counts_the_same.ensures.steps places r n u in (law.1, law.0)) f uses k
