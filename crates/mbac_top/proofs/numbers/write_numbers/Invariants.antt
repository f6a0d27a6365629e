use Rattle.std.proofs.Common.{◌≤◌, take}
use Rattle.mbac_io.specs.Device.{Appends}
use Rattle.mbac_top.specs.Messages.{numbers_of}
use Rattle.mbac_top.proofs.numbers.write_numbers.Given as goal

abbrev pub invariant-loop-number : goal.invariant-loop-number
invariant-loop-number g l = record {
  written : Appends (g.N.Sink.taken l.initial.notes) (g.N.Sink.taken l.notes)
      (numbers_of (take l.number-index l.numbers));
  never_falls : g.N.Sink.faults l.initial.notes ≤ g.N.Sink.faults l.notes;
}
