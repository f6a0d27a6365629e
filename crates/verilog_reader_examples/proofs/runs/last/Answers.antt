use Rattle.verilog_reader_examples.proofs.LastModule.{last_some}
use Rattle.verilog_reader_examples.proofs.runs.last.Goals as goal

pub returns : goal.returns
returns c = last_some c.args.modules.items c.pop.new.self.items c.pop.result c.pop.ensures.items c.requires
