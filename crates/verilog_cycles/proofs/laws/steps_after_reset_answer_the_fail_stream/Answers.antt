use Rattle.verilog_cycles.proofs.Trace.{stream_is}
use Rattle.verilog_cycles.proofs.laws.steps_after_reset_answer_the_fail_stream.Goals as goal

pub returns : goal.returns
returns c = stream_is c.a_state_has_one_cycle.ensures.no_other
