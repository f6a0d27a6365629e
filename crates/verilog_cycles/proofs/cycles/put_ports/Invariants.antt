use Rattle.std.proofs.Common.{◌≡◌, ℕ, ◌+◌, ◌<◌, length}
use Rattle.std.specs.Prelude.{slice_index}
use Rattle.verilog_cycles.proofs.cycles.put_ports.Given as goal

abbrev pub invariant-loop-place : goal.invariant-loop-place
invariant-loop-place l = (length l.table ≡ length l.initial.table)
    × ((k : ℕ) → k < l.place → slice_index l.table (2 + k) ≡ slice_index l.ports k)
    × ((s : ℕ) → s < 2 → slice_index l.table s ≡ slice_index l.initial.table s)
