use Rattle.std.proofs.Common.{ℕ, take, IsTrue}
use Rattle.weak_determinise.specs.inner.Among.{Among}
use Rattle.auto_core.specs.Graph.{graph_machine}
use Rattle.weak_determinise.proofs.moving.has_accepting.Given as goal

abbrev pub invariant-loop-state : goal.invariant-loop-state
invariant-loop-state l = (t : ℕ) → Among (take l.state-index l.states) t → ¬ IsTrue ((graph_machine l.table).accepts t)
