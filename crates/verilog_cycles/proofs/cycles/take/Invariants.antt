use Rattle.std.proofs.Common.{◌≡◌, ℕ, length, map, take}
use Rattle.std.specs.Prelude.{slice_index}
use Rattle.verilog_cycles.proofs.cycles.take.Given as goal

abbrev pub invariant-loop-at : goal.invariant-loop-at
invariant-loop-at l = (length l.state ≡ length l.nexts)
    × (take l.at l.state ≡ map (λ (p : ℕ). slice_index l.table p) (take l.at l.nexts))
