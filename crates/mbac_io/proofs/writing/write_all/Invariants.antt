use Rattle.std.proofs.Common.{length, take, ◌-◌, ◌≡◌, ◌≤◌}
use Rattle.mbac_io.specs.Device.{Appends}
use Rattle.mbac_io.proofs.writing.write_all.Given as goal

abbrev pub invariant-loop-written : goal.invariant-loop-written
invariant-loop-written g l = record {
  within : l.written ≤ length l.bytes;
  appended : Appends (g.O.Sink.taken l.initial.sink) (g.O.Sink.taken l.sink) (take l.written l.bytes);
  never_falls : g.O.Sink.faults l.initial.sink ≤ g.O.Sink.faults l.sink;
  untouched : l.written ≡ 0 → l.sink ≡ l.initial.sink;
}

abbrev pub decreases-loop-written : goal.decreases-loop-written
decreases-loop-written g l = length l.bytes - l.written
