use Rattle.std.proofs.Common.{◌≡◌, ◌≤◌, length}
use Rattle.vcd_replay.specs.inner.Walk.{IsTable}
use Rattle.vcd_replay.proofs.samples.put_in.Given as goal

abbrev pub invariant-loop-place : goal.invariant-loop-place
invariant-loop-place l = (l.from ≤ l.place) × (length l.last ≡ length l.fn.last)
    × (IsTable l.changes l.fn.last l.from → IsTable l.changes l.last l.place)
