use Rattle.weak_determinise.specs.inner.Stepping.{AreMarked}
use Rattle.weak_determinise.proofs.marking.marked.Given as goal

abbrev pub invariant-loop-state : goal.invariant-loop-state
invariant-loop-state l = AreMarked l.marks l.state l.next.items
