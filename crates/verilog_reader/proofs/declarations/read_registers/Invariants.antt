use Rattle.std.proofs.Common.{◌≡◌, ◌-◌, length}
use Rattle.std.specs.Prelude.{codes}
use Rattle.indexmap.specs.IndexMap.{keys, values}
use Rattle.verilog_reader.specs.inner.Lines.{register_at, declarations_at}
use Rattle.verilog_reader.proofs.Continued.{pending}
use Rattle.verilog_reader.proofs.declarations.read_registers.Given as goal

abbrev pub invariant-registers : goal.invariant-registers
invariant-registers l =
    pending l.widths.items (declarations_at (codes "  reg ") register_at (length l.bytes - l.number)
    (keys l.table, values l.table) l.number l.rest)
    ≡ declarations_at (codes "  reg ") register_at (length l.bytes) (keys l.fn.table, values l.fn.table) 0 l.bytes
