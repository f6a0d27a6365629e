use Rattle.std.proofs.Common.{◌≡◌, drop}
use Rattle.indexmap.specs.IndexMap.{keys, values}
use Rattle.verilog_reader.specs.inner.Lines.{add_ports}
use Rattle.verilog_reader.proofs.names.put_ports.Given as goal

abbrev pub invariant-loop-port : goal.invariant-loop-port
invariant-loop-port l = add_ports (keys l.table, values l.table) (drop l.port-index l.ports)
    ≡ add_ports (keys l.initial.table, values l.initial.table) l.ports
