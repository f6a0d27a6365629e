use Rattle.std.proofs.Common.{map, vec_items}
use Rattle.auto_core.specs.inner.Lasts.{KnowsLasts}
use Rattle.auto_core.proofs.indexed.all_lasts.Given as goal

abbrev pub invariant-loop-state : goal.invariant-loop-state
invariant-loop-state l = KnowsLasts l.table l.state (map vec_items l.lasts.items)
