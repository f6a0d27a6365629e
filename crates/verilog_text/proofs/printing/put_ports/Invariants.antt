use Rattle.std.proofs.Common.{◌≡◌, ◌++◌, take}
use Rattle.std.specs.Prelude.{flat_map}
use Rattle.verilog_text.specs.Growth.{Extends}
use Rattle.verilog_text.specs.Text.{port_line}
use Rattle.verilog_text.proofs.printing.put_ports.Given as goal

abbrev pub invariant-loop-port : goal.invariant-loop-port
invariant-loop-port l =
    (l.out.items ≡ l.initial.out.items ++ flat_map port_line (take l.port-index l.ports))
    × Extends l.initial.out.items l.out.items
