use Rattle.verilog_text.specs.Text.{interface_lines}
use Rattle.verilog_text.proofs.Joins.{joins, joins_if}
use Rattle.verilog_text.proofs.printing.put_interface.Goals as goal

pub returns-clause-text : goal.returns-clause-text
unfolding interface_lines
returns-clause-text c =
    let ports = rw c.as_slice.ensures at c.in_ok-put_ports.ensures.text in
    let first = joins c.args.out.now.items _ _ _ _ c.in_ok-put_header.ensures.text c.in_ok-put_report.ensures.text in
    let second = joins c.args.out.now.items _ _ _ _ first c.in_ok-put_inputs.ensures.text in
    let third = joins c.args.out.now.items _ _ _ _ second ports in
    joins_if _ c.args.out.now.items _ _ _ _ third c.put_output.ensures.text
