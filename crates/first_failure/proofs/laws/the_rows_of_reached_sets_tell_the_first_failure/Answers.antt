use Rattle.std.proofs.Common.{subst, sym, List}
use Rattle.auto_core.specs.Graph.{graph_machine}
use Rattle.first_failure.specs.declared.automaton.FailRow.{FailRow}
use Rattle.first_failure.specs.FirstFailure.{TellsFirstFailure, IsWhole}
use Rattle.first_failure.proofs.Law.{tells_first_failure}
use Rattle.first_failure.proofs.Whole.{is_whole}
use Rattle.first_failure.proofs.laws.the_rows_of_reached_sets_tell_the_first_failure.Goals as goal

pub returns-clause-tells : goal.returns-clause-tells
returns-clause-tells c g nodes auto sets same =
    subst (λ (rows : List FailRow). TellsFirstFailure (graph_machine g) (record { rows = rows })) (sym same)
    (tells_first_failure (graph_machine g) nodes sets)

pub returns-clause-whole : goal.returns-clause-whole
returns-clause-whole c g nodes auto sets same =
    subst (λ (rows : List FailRow). IsWhole (record { rows = rows })) (sym same) (is_whole (graph_machine g) nodes sets)
