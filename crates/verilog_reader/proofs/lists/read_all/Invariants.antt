use Rattle.std.proofs.Common.{◌≡◌, ◌-◌, length, map, []}
use Rattle.indexmap.specs.IndexMap.{keys, values}
use Rattle.verilog_text.specs.View.{module_of}
use Rattle.verilog_reader.specs.inner.Lines.{modules_at}
use Rattle.verilog_reader.proofs.ModuleLists.{followed}
use Rattle.verilog_reader.proofs.lists.read_all.Given as goal

abbrev pub invariant-modules : goal.invariant-modules
invariant-modules l =
    followed (map module_of l.modules.items) (modules_at (length l.bytes - l.most) (keys l.seen, values l.seen) l.rest)
    ≡ modules_at (length l.bytes) ([], []) l.bytes
