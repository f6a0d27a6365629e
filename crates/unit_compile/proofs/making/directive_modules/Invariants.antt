use Rattle.std.proofs.Common.{map}
use Rattle.psl_model.specs.UnitView.{unit_of}
use Rattle.verilog_text.specs.View.{module_of}
use Rattle.unit_compile.proofs.Loops.{MadeSoFar, JudgedSoFar}
use Rattle.unit_compile.proofs.making.directive_modules.Given as goal

abbrev pub invariant-loop-place : goal.invariant-loop-place
invariant-loop-place l =
    MadeSoFar (unit_of l.unit) l.directives l.place (map module_of l.modules.items) ×
    JudgedSoFar l.directives l.place l.steps
