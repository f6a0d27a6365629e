use Rattle.verilog_text.proofs.SmallChecker.{lawful}
use Rattle.verilog_text.proofs.examples.small_checker_is_lawful.Goals as goal

pub returns : goal.returns
returns c = lawful
