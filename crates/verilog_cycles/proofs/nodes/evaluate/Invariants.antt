use Rattle.std.proofs.Common.{◌≡◌, ℕ, ◌<◌, length}
use Rattle.std.specs.Prelude.{slice_index}
use Rattle.verilog_cycles.proofs.Evaluation.{MeetsBelow}
use Rattle.verilog_cycles.proofs.nodes.evaluate.Given as goal

abbrev pub invariant-loop-place : goal.invariant-loop-place
invariant-loop-place l = (length l.table ≡ length l.nodes) × MeetsBelow l.place l.first l.nodes l.table
    × ((s : ℕ) → s < l.first → slice_index l.table s ≡ slice_index l.initial.table s)
