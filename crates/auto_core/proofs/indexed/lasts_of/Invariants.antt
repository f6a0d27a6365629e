use Rattle.auto_core.specs.inner.Lasts.{ListsLasts}
use Rattle.auto_core.proofs.indexed.lasts_of.Given as goal

abbrev pub invariant-loop-place : goal.invariant-loop-place
invariant-loop-place l = ListsLasts l.table l.state l.place l.places.items
