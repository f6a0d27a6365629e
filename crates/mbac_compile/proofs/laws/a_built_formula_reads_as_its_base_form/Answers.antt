use Rattle.std.proofs.Common.{ℕ, List, length, map, ◌∙◌}
use Rattle.psl_model.specs.Formula.{Formula}
use Rattle.psl_model.specs.Uses.{formula_uses, used_places}
use Rattle.psl_meaning.specs.Violation.{WeaklyViolates, Violates}
use Rattle.psl_rewrite.specs.BaseForm.{base_form_of}
use Rattle.psl_rewrite.specs.Meaning.{named}
use Rattle.psl_rewrite.specs.SameMeaning.{MeanTheSame}
use Rattle.port_formulas.specs.Chosen.{chosen, UsesOnly}
use Rattle.port_formulas.specs.Over.{over}
use Rattle.simple_subset.specs.Subset.{InSubset}
use Rattle.mbac_compile.specs.Units.{expression_parentheses_limit}
use Rattle.mbac_compile.proofs.Alike.{weakly_same, wholly_same, some_mapped}
use Rattle.mbac_compile.proofs.laws.a_built_formula_reads_as_its_base_form.Goals as goal

pub returns-clause-guards : goal.returns-clause-guards
returns-clause-guards c widths f built has =
    let places : List ℕ = used_places (length widths) f in
    let limit : ℕ = expression_parentheses_limit in
    let uses : UsesOnly places (λ signal. formula_uses signal f) =
    c.used_places_are_those_of_the_used_signals.ensures.enough (length widths) f
    (λ place used. c.an_allowed_formula_uses_signals_of_its_table.ensures widths limit f place has used) in
    c.a_base_form_keeps_the_conditions.ensures.expressions (over places f) (chosen places widths) limit
    (c.a_formula_over_its_signals_keeps_the_conditions.ensures.expressions places widths limit f uses has)

pub returns-clause-reads : goal.returns-clause-reads
returns-clause-reads c widths f built has =
    let places : List ℕ = used_places (length widths) f in
    let inner : Formula = over places f in
    let uses : UsesOnly places (λ signal. formula_uses signal f) =
    c.used_places_are_those_of_the_used_signals.ensures.enough (length widths) f
    (λ place used. c.an_allowed_formula_uses_signals_of_its_table.ensures widths expression_parentheses_limit f place
    has used) in
    let simple : InSubset inner =
    c.a_formula_over_its_signals_keeps_the_conditions.ensures.rules places f ∙ built.simple in
    let same : MeanTheSame (named (base_form_of inner)) inner =
    c.a_base_form_keeps_the_meaning.ensures inner simple in
    let law = c.a_formula_over_its_signals_is_violated_alike.ensures in
    record {
      fits = λ values fit. c.chosen_values_fit.ensures places widths values fit;
      weakly = λ trace fit. weakly_same (chosen places widths) inner same (WeaklyViolates widths f trace)
          (map (chosen places) trace) (law.weakly places widths f trace uses);
      whole = λ trace some fit. wholly_same (chosen places widths) inner same (Violates widths f trace)
          (map (chosen places) trace) (some_mapped (chosen places) trace some) (law.whole places widths f trace uses);
    }
