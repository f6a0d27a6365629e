use Rattle.auto_core.specs.Graph.{graph_machine}
use Rattle.weak_determinise.specs.inner.Stepping.{all_steps}
use Rattle.weak_determinise.proofs.Moves.{move_more}
use Rattle.weak_determinise.proofs.moving.moves_of.Goals as goal

pub loop-value-preserved : goal.loop-value-preserved
loop-value-preserved c = move_more (graph_machine c.args.table.now) (all_steps c.args.steps.now) c.args.count
    c.args.limit c.loop-value.value _ _ _ _ _ _ c.loop-value.invariant c.in_ok-way.ensures.tells
    c.in_ok-push_move.ensures.pushed
