use Rattle.verilog_reader.proofs.WholeTexts.{one_list}
use Rattle.verilog_reader.proofs.laws.a_text_has_one_reading.Goals as goal

pub returns : goal.returns
returns c = one_list
