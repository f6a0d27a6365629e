use Rattle.std.proofs.Common.{[], ◌∷◌}
use Rattle.std.specs.Prelude.{codes}
use Rattle.verilog_text.specs.Text.{wire_line}
use Rattle.verilog_text.proofs.Joins.{joins, joins_parts}
use Rattle.verilog_text.proofs.printing.put_wire.Goals as goal

pub returns-clause-text : goal.returns-clause-text
unfolding wire_line
returns-clause-text c =
    let first = joins c.args.out.now.items _ _ _ _ c.in_ok-put_wire_declaration.ensures.text c.in_ok-put.ensures.text in
    let second = joins c.args.out.now.items _ _ _ _ first c.in_ok-put_expression.ensures.text in
    joins_parts _ c.args.out.now.items _ _ _ (codes ";") (10 ∷ []) second c.put-2.ensures.text
