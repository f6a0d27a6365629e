use Rattle.std.proofs.Common.{◌<◌, length, arith}
use Rattle.auto_core.proofs.Marking.{begun_more}
use Rattle.auto_core.proofs.aliveness.begin.Goals as goal

pub loop-state-preserved : goal.loop-state-preserved
loop-state-preserved c =
    let inside : c.loop-state.state < length c.args.table.now.accepting =
    omega (arith, c.loop-state-test.true, c.states-state-end.ensures) in
    let (marks, works, known) = begun_more c.args.table.now.accepting c.loop-state.state _ _
    c.accepts-accepts.result _ _ inside c.accepts-accepts.ensures c.loop-state.invariant.marks
    c.loop-state.invariant.works c.loop-state.invariant.known c.in_ok-push_mark.ensures.marks
    c.in_ok-push_mark.ensures.works in
    record { marks = marks; works = works; known = known }
