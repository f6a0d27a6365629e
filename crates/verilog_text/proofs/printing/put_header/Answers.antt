use Rattle.std.proofs.Common.{[], ◌∷◌}
use Rattle.std.specs.Prelude.{codes}
use Rattle.verilog_text.specs.Text.{header_line}
use Rattle.verilog_text.proofs.Joins.{joins, joins_parts}
use Rattle.verilog_text.proofs.printing.put_header.Goals as goal

pub returns-clause-text : goal.returns-clause-text
unfolding header_line
returns-clause-text c =
    let name = rw c.bytes.ensures.all_bytes at c.in_ok-put-2.ensures.text in
    let ports = rw c.as_slice.ensures at c.in_ok-put_port_names.ensures.text in
    let first = joins c.args.out.now.items _ _ _ _ c.in_ok-put.ensures.text name in
    let second = joins c.args.out.now.items _ _ _ _ first c.in_ok-put-3.ensures.text in
    let third = joins c.args.out.now.items _ _ _ _ second ports in
    joins_parts _ c.args.out.now.items _ _ _ (codes "mbac_fail);") (10 ∷ []) third c.put-4.ensures.text
