use Rattle.std.proofs.Common.{length, map, take}
use Rattle.verilog_text.specs.View.{wire_of}
use Rattle.verilog_cycles.specs.inner.Ready.{AreWires}
use Rattle.verilog_cycles.proofs.program.put_wires.Given as goal

abbrev pub invariant-loop-at : goal.invariant-loop-at
invariant-loop-at l = AreWires (length l.initial.nodes.items) l.initial.widths.items l.initial.places.items
    (map wire_of (take l.at l.wires)) l.widths.items l.places.items l.nodes.items
