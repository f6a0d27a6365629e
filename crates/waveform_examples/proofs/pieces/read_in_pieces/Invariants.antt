use Rattle.std.proofs.Common.{◌≤◌}
use Rattle.vcd_reader.specs.Stream.{stream_taken}
use Rattle.waveform_examples.proofs.pieces.read_in_pieces.Given as goal

abbrev pub invariant-loop-piece : goal.invariant-loop-piece
invariant-loop-piece l = stream_taken l.reader ≤ l.taken
