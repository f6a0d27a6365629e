use Rattle.std.proofs.lemmas.Result.{IfOk-weaker}
use Rattle.psl_rewrite.specs.Meaning.{meant_core}
use Rattle.psl_rewrite.specs.View.{core_of}
use Rattle.std.proofs.Common.{[], ◌++◌}
use Rattle.symbol_alphabet.specs.Symbols.{label_in}
use Rattle.sequence_tables.proofs.Steps.{few_states, edges_are_steps}
use Rattle.sequence_tables.proofs.Tables.{numbered_now}
use Rattle.sequence_tables.proofs.building.build.Goals as goal

pub returns-clause-numbered : goal.returns-clause-numbered
returns-clause-numbered c =
    IfOk-weaker c.tabled.result _ _
    (λ t stands. numbered_now c.tabled.new.symbols (meant_core (core_of c.args.core.now)) t stands)
    c.tabled.ensures.stands

pub returns-clause-words : goal.returns-clause-words
returns-clause-words c =
    IfOk-weaker c.tabled.result _ _ (λ t stands later. (stands later).words) c.tabled.ensures.stands

pub returns-clause-graph : goal.returns-clause-graph
returns-clause-graph c =
    IfOk-weaker c.tabled.result _ _ (λ t stands later. (stands later).graph) c.tabled.ensures.stands

pub returns-clause-states : goal.returns-clause-states
returns-clause-states c =
    IfOk-weaker c.tabled.result _ _
    (λ t stands. few_states (label_in (c.tabled.new.symbols ++ [])) (meant_core (core_of c.args.core.now)) t
    (stands []).graph)
    c.tabled.ensures.stands

pub returns-clause-steps : goal.returns-clause-steps
returns-clause-steps c =
    IfOk-weaker c.tabled.result _ _
    (λ t stands. edges_are_steps (c.tabled.new.symbols ++ []) c.a_label_is_one_literal.ensures.one
    c.a_union_has_the_literals_of_both.ensures.members c.a_union_has_the_literals_of_both.ensures.ordered
    c.a_union_has_the_literals_of_both.ensures.joined (meant_core (core_of c.args.core.now)) (stands []).booleans t
    (stands []).graph)
    c.tabled.ensures.stands
