use Rattle.auto_core.specs.Graph.{graph_machine}
use Rattle.weak_determinise.specs.inner.Stepping.{steps_in}
use Rattle.weak_determinise.proofs.Gathering.{steps_more, steps_none}
use Rattle.weak_determinise.proofs.stepping.put_steps.Goals as goal

pub loop-place-init : goal.loop-place-init
loop-place-init c = record {
  gathered = c.requires.before;
  adds = steps_none (graph_machine c.args.table.now) c.args.state
      (steps_in c.args.gathered.now.labels.keys c.args.gathered.now.rows.items);
}

pub loop-place-preserved : goal.loop-place-preserved
loop-place-preserved c = record {
  gathered = c.in_ok-put_step.ensures.gathered;
  adds = steps_more (graph_machine c.args.table.now) c.args.state c.loop-place.place _ _ _
      c.loop-place.invariant.adds c.in_ok-put_step.ensures.takes;
}
