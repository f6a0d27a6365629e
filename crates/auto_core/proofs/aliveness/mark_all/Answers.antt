use Rattle.auto_core.proofs.Marking.{spread_more}
use Rattle.auto_core.proofs.aliveness.mark_all.Goals as goal

pub loop-state-preserved : goal.loop-state-preserved
loop-state-preserved c = spread_more c.args.states.now c.loop-state.state-index _ _ _ _ _ _ _ c.loop-state-test.true
    c.loop-state.invariant c.in_ok-mark.ensures
