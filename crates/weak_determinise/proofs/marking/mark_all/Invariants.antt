use Rattle.std.proofs.Common.{take}
use Rattle.weak_determinise.specs.inner.Among.{Among}
use Rattle.weak_determinise.specs.inner.Stepping.{AddsMarks}
use Rattle.weak_determinise.proofs.marking.mark_all.Given as goal

abbrev pub invariant-loop-state : goal.invariant-loop-state
invariant-loop-state l = AddsMarks (Among (take l.state-index l.states)) l.fn.marks.items l.marks.items
