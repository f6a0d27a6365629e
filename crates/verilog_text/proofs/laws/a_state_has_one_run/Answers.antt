use Rattle.verilog_text.proofs.OneRun.{has_run, same_run}
use Rattle.verilog_text.proofs.laws.a_state_has_one_run.Goals as goal

pub returns : goal.returns
returns c = record {
  there_is_one = has_run c.an_expression_reads_its_own_signals.ensures.value;
  no_other = same_run c.an_expression_reads_its_own_signals.ensures.value;
}
