use Rattle.std.proofs.Common.{◌≡◌, ◌≢◌, ℕ, ◌≤◌, vec_len, ◌-◌}
use Rattle.mbac_io.specs.Device.{Keeps, Takes}
use Rattle.mbac_io.specs.Faults.{AreCountedApart}
use Rattle.mbac_io.proofs.reading.read_all.Given as goal

abbrev pub invariant-loop-bytes : goal.invariant-loop-bytes
invariant-loop-bytes g l = record {
  within : vec_len l.bytes ≤ l.limit;
  taken : Takes (g.I.Inputs.left l.initial.inputs l.slot) (g.I.Inputs.left l.inputs l.slot) l.bytes.items;
  others_kept : (other : ℕ) → other ≢ l.slot →
      Keeps (g.I.Inputs.left l.initial.inputs other) (g.I.Inputs.left l.inputs other);
  never_falls : (any : ℕ) → g.I.Inputs.faults l.initial.inputs any ≤ g.I.Inputs.faults l.inputs any;
  counted_apart : (other : ℕ) → AreCountedApart l.slot other →
      g.I.Inputs.faults l.inputs other ≡ g.I.Inputs.faults l.initial.inputs other;
}

abbrev pub decreases-loop-bytes : goal.decreases-loop-bytes
decreases-loop-bytes g l = l.limit - vec_len l.bytes
