use Rattle.auto_core.specs.Graph.{graph_machine}
use Rattle.weak_determinise.specs.inner.Stepping.{steps_in, IsGathered, AddsSteps}
use Rattle.weak_determinise.proofs.stepping.put_steps.Given as goal

abbrev pub invariant-loop-place : goal.invariant-loop-place
invariant-loop-place l = record {
  gathered : IsGathered l.gathered.labels.keys l.gathered.rows.items;
  adds : AddsSteps (graph_machine l.table) l.state l.place
      (steps_in l.fn.gathered.labels.keys l.fn.gathered.rows.items)
      (steps_in l.gathered.labels.keys l.gathered.rows.items);
}
