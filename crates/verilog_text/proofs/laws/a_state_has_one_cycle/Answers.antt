use Rattle.verilog_text.proofs.OneRun.{has_cycle, same_cycle}
use Rattle.verilog_text.proofs.laws.a_state_has_one_cycle.Goals as goal

pub returns : goal.returns
returns c = record {
  there_is_one = has_cycle c.an_expression_reads_its_own_signals.ensures.value;
  no_other = same_cycle c.an_expression_reads_its_own_signals.ensures.value;
}
