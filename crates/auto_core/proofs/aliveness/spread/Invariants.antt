use Rattle.std.proofs.Common.{◌+◌, length, count_by, not}
use Rattle.auto_core.specs.inner.Searching.{IsSearch}
use Rattle.auto_core.proofs.aliveness.spread.Given as goal

abbrev pub invariant-loop-state : goal.invariant-loop-state
invariant-loop-state l = IsSearch l.table l.marked.items l.work.items

abbrev pub decreases-loop-state : goal.decreases-loop-state
decreases-loop-state l = count_by not l.marked.items + length l.work.items
