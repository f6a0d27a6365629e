use Rattle.std.proofs.Common.{◌≡◌, ◌-◌, length, map}
use Rattle.std.specs.Prelude.{codes}
use Rattle.indexmap.specs.IndexMap.{keys, values}
use Rattle.verilog_text.specs.View.{wire_of}
use Rattle.verilog_reader.specs.inner.Lines.{wire_at, declarations_at}
use Rattle.verilog_reader.proofs.Continued.{pending}
use Rattle.verilog_reader.proofs.declarations.read_wires.Given as goal

abbrev pub invariant-wires : goal.invariant-wires
invariant-wires l =
    pending (map wire_of l.wires.items)
    (declarations_at (codes "  wire ") wire_at (length l.bytes - l.number) (keys l.table, values l.table) l.number
    l.rest)
    ≡ declarations_at (codes "  wire ") wire_at (length l.bytes) (keys l.fn.table, values l.fn.table) 0 l.bytes
