use Rattle.std.proofs.Common.{◌≡◌, drop, map}
use Rattle.indexmap.specs.IndexMap.{keys, values}
use Rattle.verilog_text.specs.View.{register_of}
use Rattle.verilog_reader.specs.inner.Lines.{updates_at}
use Rattle.verilog_reader.proofs.Continued.{continued}
use Rattle.verilog_reader.proofs.behaviour.read_updates.Given as goal

abbrev pub invariant-updates : goal.invariant-updates
invariant-updates l =
    continued (map register_of l.registers.items)
    (updates_at (keys l.table, values l.table) l.number (drop l.number l.widths) l.rest)
    ≡ updates_at (keys l.table, values l.table) 0 l.widths l.bytes
