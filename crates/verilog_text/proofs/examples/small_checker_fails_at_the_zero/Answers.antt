use Rattle.verilog_text.proofs.SmallChecker.{stream}
use Rattle.verilog_text.proofs.examples.small_checker_fails_at_the_zero.Goals as goal

pub returns : goal.returns
returns c = stream
