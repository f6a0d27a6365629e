use Rattle.verilog_text.proofs.Joins.{joins, joins_if}
use Rattle.verilog_text.proofs.expressions.put_part.Goals as goal

pub returns-clause-text : goal.returns-clause-text
returns-clause-text c =
    let first = joins c.args.out.now.items _ _ _ _ c.in_ok-put.ensures.text c.in_ok-put_number.ensures.text in
    let second = joins c.args.out.now.items _ _ _ _ first c.in_ok-put-2.ensures.text in
    let third = joins c.args.out.now.items _ _ _ _ second c.in_ok-put_number-2.ensures.text in
    joins_if _ c.args.out.now.items _ _ _ _ third c.put-3.ensures.text
