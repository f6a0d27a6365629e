use Rattle.std.proofs.Common.{◌≡◌, ◌++◌, map, take}
use Rattle.verilog_text.specs.Module.{names_of}
use Rattle.verilog_text.specs.Growth.{Extends}
use Rattle.verilog_text.specs.Text.{each_numbered, wire_line}
use Rattle.verilog_text.specs.View.{wire_of, module_of}
use Rattle.verilog_text.proofs.printing.put_wires.Given as goal

abbrev pub invariant-loop-number : goal.invariant-loop-number
invariant-loop-number l =
    (l.out.items ≡ l.initial.out.items ++ each_numbered (wire_line (names_of (module_of l.checker))) 0
    (map wire_of (take l.number l.wires)))
    × Extends l.initial.out.items l.out.items
