use Rattle.std.proofs.Common.{◌≡◌, ◌-◌, length}
use Rattle.verilog_reader.specs.inner.Lines.{port_names_at}
use Rattle.verilog_reader.proofs.Continued.{continued}
use Rattle.verilog_reader.proofs.headers.read_port_names.Given as goal

abbrev pub invariant-names : goal.invariant-names
invariant-names l = continued l.ports.items (port_names_at (length l.bytes - l.most) l.rest)
    ≡ port_names_at (length l.bytes) l.bytes
