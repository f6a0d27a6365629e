use Rattle.std.proofs.Common.{[], ◌∷◌}
use Rattle.std.specs.Prelude.{codes}
use Rattle.verilog_text.specs.Text.{always_line}
use Rattle.verilog_text.proofs.Joins.{joins, joins_parts}
use Rattle.verilog_text.proofs.printing.put_always.Goals as goal

pub returns-clause-text : goal.returns-clause-text
unfolding always_line
returns-clause-text c =
    let first = joins c.args.out.now.items _ _ _ _ c.in_ok-put.ensures.text c.in_ok-put_register_name.ensures.text in
    let second = joins c.args.out.now.items _ _ _ _ first c.in_ok-put-2.ensures.text in
    let third = joins c.args.out.now.items _ _ _ _ second c.in_ok-put_update.ensures.text in
    joins_parts _ c.args.out.now.items _ _ _ (codes ";") (10 ∷ []) third c.put-3.ensures.text
