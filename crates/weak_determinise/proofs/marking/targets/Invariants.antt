use Rattle.std.proofs.Common.{◌≡◌, ◌↔◌, ℕ, take, length}
use Rattle.weak_determinise.specs.inner.Stepping.{steps_in, IsMarked, IsTarget}
use Rattle.weak_determinise.proofs.marking.targets.Given as goal

abbrev pub invariant-loop-place : goal.invariant-loop-place
invariant-loop-place l = record {
  size : length l.marks.items ≡ l.fn.count;
  marks : (t : ℕ) → IsMarked l.marks.items t ↔
      IsTarget (steps_in (take l.place l.steps.labels.items) (take l.place l.steps.rows.items)) l.bits t;
}
