use Rattle.std.proofs.Common.{◌≡◌, ℕ, ◌<◌, Some}
use Rattle.std.specs.Prelude.{slice_get}
use Rattle.vcd_reader.specs.declared.waveform.Var.{Var}
use Rattle.vcd_replay.specs.Ports.{IsNamed}
use Rattle.vcd_replay.proofs.ports.find.Given as goal

abbrev pub invariant-loop-place : goal.invariant-loop-place
invariant-loop-place l = (k : ℕ) (other : Var) → k < l.place → slice_get l.vars k ≡ Some other
    → ¬ IsNamed l.scope l.name other
