use Rattle.std.proofs.Common.{◌≡◌, ℕ, ◌<◌, take}
use Rattle.auto_core.specs.inner.Among.{Among}
use Rattle.auto_core.specs.inner.Searching.{IsMarked}
use Rattle.auto_core.proofs.aliveness.begin.Given as goal

abbrev pub invariant-loop-state : goal.invariant-loop-state
invariant-loop-state l = record {
  marks : l.marked.items ≡ take l.state l.table.accepting;
  works : (n : ℕ) → IsMarked l.marked.items n → Among l.work.items n;
  known : (n : ℕ) → Among l.work.items n → (n < l.state) × IsMarked l.marked.items n;
}
