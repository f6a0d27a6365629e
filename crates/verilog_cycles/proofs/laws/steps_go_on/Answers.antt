use Rattle.std.proofs.Common.{refl}
use Rattle.verilog_cycles.proofs.Trace.{steps_more}
use Rattle.verilog_cycles.proofs.laws.steps_go_on.Goals as goal

pub returns : goal.returns
returns c = record {
  none = λ m state. refl;
  more = λ m inputs eots before answers between ports eot answer after. steps_more m inputs eots before answers
      between ports eot answer after;
}
