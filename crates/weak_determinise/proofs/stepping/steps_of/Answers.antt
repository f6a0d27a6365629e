use Rattle.std.proofs.Common.{get_or}
use Rattle.auto_core.specs.Graph.{graph_machine}
use Rattle.weak_determinise.proofs.Gathering.{state_more, default_same, gathered_none, steps_of_none}
use Rattle.weak_determinise.proofs.stepping.steps_of.Goals as goal

pub loop-state-init : goal.loop-state-init
loop-state-init c = record {
  gathered = gathered_none _ _ c.nothing-gathered.ensures.labels c.nothing-gathered.ensures.rows;
  steps = steps_of_none (graph_machine c.args.table.now) _ _ c.nothing-gathered.ensures.labels
      c.nothing-gathered.ensures.rows;
}

pub loop-state-preserved : goal.loop-state-preserved
loop-state-preserved c = record {
  gathered = c.in_ok-put_steps.ensures.gathered;
  steps = state_more (graph_machine c.args.table.now) c.args.states.now c.loop-state.state-index
      (get_or c.args.states.now c.loop-state.state-index 0) _ _ c.loop-state-test.true
      (default_same c.args.states.now c.loop-state.state-index 0 c.loop-state-test.true) c.loop-state.invariant.steps
      c.in_ok-put_steps.ensures.adds;
}
