use Rattle.std.proofs.Common.{◌≡◌, drop}
use Rattle.verilog_reader.specs.inner.Lines.{ports_at}
use Rattle.verilog_reader.proofs.Continued.{continued}
use Rattle.verilog_reader.proofs.declarations.read_ports.Given as goal

abbrev pub invariant-ports : goal.invariant-ports
invariant-ports l = continued l.ports.items (ports_at (drop l.port-index l.header) l.rest) ≡ ports_at l.header l.bytes
