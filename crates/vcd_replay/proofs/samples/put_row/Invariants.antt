use Rattle.std.proofs.Common.{◌≡◌, ◌++◌, ℕ, List}
use Rattle.vcd_replay.specs.inner.Walk.{IsTable}
use Rattle.vcd_replay.proofs.Tables.{IsRowSoFar}
use Rattle.vcd_replay.proofs.samples.put_row.Given as goal

abbrev pub invariant-loop-port : goal.invariant-loop-port
invariant-loop-port l = (place : ℕ) → IsTable l.changes l.last place → (row : List ℕ)
    × (l.values.items ≡ l.fn.values.items ++ row) × IsRowSoFar l.changes l.codes place l.port row
