use Rattle.std.proofs.Common.{◌≡◌, ℕ, ◌+◌, ◌<◌, length}
use Rattle.std.specs.Prelude.{slice_index}
use Rattle.verilog_cycles.proofs.cycles.put_state.Given as goal

abbrev pub invariant-loop-place : goal.invariant-loop-place
invariant-loop-place l = (length l.table ≡ length l.initial.table)
    × ((k : ℕ) → k < l.place → slice_index l.table (l.from + k) ≡ slice_index l.state k)
    × ((s : ℕ) → s < l.from → slice_index l.table s ≡ slice_index l.initial.table s)
