use Rattle.std.proofs.Common.{take}
use Rattle.auto_core.specs.inner.Searching.{Spreads}
use Rattle.auto_core.proofs.aliveness.mark_all.Given as goal

abbrev pub invariant-loop-state : goal.invariant-loop-state
invariant-loop-state l = Spreads (take l.state-index l.states) l.fn.marked.items l.fn.work.items l.marked.items
    l.work.items
