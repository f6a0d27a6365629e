use Rattle.std.proofs.Common.{◌<◌, get_or, length, refl}
use Rattle.std.proofs.lemmas.List.Elements.{All-get_or}
use Rattle.weak_determinise.proofs.Gathering.{default_same}
use Rattle.weak_determinise.proofs.MarkedTargets.{no_marks, marks_more}
use Rattle.weak_determinise.proofs.marking.mark_all.Goals as goal

pub loop-state-init : goal.loop-state-init
loop-state-init c = no_marks c.args.marks.now.items

pub loop-state-preserved : goal.loop-state-preserved
loop-state-preserved c = marks_more c.args.states.now c.loop-state.state-index
    (get_or c.args.states.now c.loop-state.state-index 0) _ _ _ c.loop-state-test.true
    (default_same c.args.states.now c.loop-state.state-index 0 c.loop-state-test.true) c.loop-state.invariant
    (All-get_or (λ s. s < length c.args.marks.now.items) c.args.states.now c.loop-state.state-index 0
    c.loop-state-test.true c.requires) refl
