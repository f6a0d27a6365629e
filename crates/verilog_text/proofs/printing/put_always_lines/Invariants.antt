use Rattle.std.proofs.Common.{◌≡◌, ◌++◌, map, take}
use Rattle.verilog_text.specs.Module.{names_of}
use Rattle.verilog_text.specs.Growth.{Extends}
use Rattle.verilog_text.specs.Text.{each_numbered, always_line}
use Rattle.verilog_text.specs.View.{register_of, module_of}
use Rattle.verilog_text.proofs.printing.put_always_lines.Given as goal

abbrev pub invariant-loop-number : goal.invariant-loop-number
invariant-loop-number l =
    (l.out.items ≡ l.initial.out.items ++ each_numbered (always_line (names_of (module_of l.checker))) 0
    (map register_of (take l.number l.registers)))
    × Extends l.initial.out.items l.out.items
