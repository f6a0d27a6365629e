use Rattle.std.proofs.Common.{◌≡◌, [], ◌∷◌}
use Rattle.verilog_text.specs.Interface.{port_widths}
use Rattle.verilog_reader_examples.proofs.pairs.first_rise.Given as goal

abbrev pub invariant-loop-cycle : goal.invariant-loop-cycle
invariant-loop-cycle l = port_widths l.machine.loaded.ports ≡ 1 ∷ 1 ∷ []
