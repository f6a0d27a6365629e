use Rattle.std.proofs.Common.{ℕ, ◌≤◌, length, map, take}
use Rattle.verilog_text.specs.View.{register_of}
use Rattle.verilog_cycles.specs.inner.Ready.{AreNexts}
use Rattle.verilog_cycles.proofs.program.put_nexts.Given as goal

abbrev pub invariant-loop-at : goal.invariant-loop-at
invariant-loop-at l = (first : ℕ) → first ≤ length l.initial.nodes.items →
    AreNexts first l.widths l.places (map register_of (take l.at l.regs)) l.nexts.items l.initial.nodes.items
    l.nodes.items
