use Rattle.std.proofs.Common.{take}
use Rattle.auto_core.specs.Graph.{graph_machine}
use Rattle.weak_determinise.specs.inner.Stepping.{steps_in, IsGathered, AreSteps}
use Rattle.weak_determinise.proofs.stepping.steps_of.Given as goal

abbrev pub invariant-loop-state : goal.invariant-loop-state
invariant-loop-state l = record {
  gathered : IsGathered l.gathered.labels.keys l.gathered.rows.items;
  steps : AreSteps (graph_machine l.table) (take l.state-index l.states)
      (steps_in l.gathered.labels.keys l.gathered.rows.items);
}
