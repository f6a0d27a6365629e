use Rattle.std.proofs.Common.{◌≡◌, map, take}
use Rattle.std.specs.List.{flat_map}
use Rattle.verilog_text.specs.Text.{spelling}
use Rattle.verilog_text.specs.View.{module_of}
use Rattle.unit_compile.proofs.compiling.print_all.Given as goal

abbrev pub invariant-loop-checker : goal.invariant-loop-checker
invariant-loop-checker l = l.text.items ≡ flat_map spelling (map module_of (take l.checker-index l.modules))
