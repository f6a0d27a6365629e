use Rattle.verilog_text.specs.Text.{input_lines}
use Rattle.verilog_text.proofs.Joins.{joins, joins_if}
use Rattle.verilog_text.proofs.printing.put_inputs.Goals as goal

pub returns-clause-text : goal.returns-clause-text
unfolding input_lines
returns-clause-text c =
    joins_if _ c.args.out.now.items _ _ _ _
    (joins c.args.out.now.items _ _ _ _ c.in_ok-put.ensures.text c.in_ok-put-2.ensures.text) c.put-3.ensures.text
