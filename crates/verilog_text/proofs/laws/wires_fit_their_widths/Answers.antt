use Rattle.verilog_text.proofs.OneRun.{wires_fit}
use Rattle.verilog_text.proofs.laws.wires_fit_their_widths.Goals as goal

pub returns : goal.returns
returns c = wires_fit
