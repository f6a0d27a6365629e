-- What the first part of a module that was read is.
use Rattle.std.specs.Prelude.{ℕ, List, Option}
use Rattle.indexmap.specs.IndexMap.{keys, values}
use Rattle.psl_model.specs.declared.names.Signal.{Signal}
use Rattle.verilog_reader.specs.declared.interfaces.Interface.{Interface}
use Rattle.verilog_reader.specs.inner.Lines.{State}

abbrev pub interface_of : Interface → (List ℕ × Option (List ℕ) × List Signal × State) × List ℕ
interface_of i = ((i.name, i.report, i.ports.items, (keys i.table, values i.table)), i.rest.now)
