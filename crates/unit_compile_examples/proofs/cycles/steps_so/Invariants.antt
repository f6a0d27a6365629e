use Rattle.std.proofs.Common.{◌≡◌, ◌∷◌, []}
use Rattle.verilog_text.specs.Interface.{port_widths}
use Rattle.verilog_text.specs.View.{module_of}
use Rattle.unit_compile_examples.proofs.cycles.steps_so.Given as goal

abbrev pub invariant-loop-value : goal.invariant-loop-value
invariant-loop-value l = port_widths (module_of l.machine.loaded).ports ≡ l.width ∷ []
