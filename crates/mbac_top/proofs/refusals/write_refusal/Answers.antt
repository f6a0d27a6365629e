use Rattle.std.proofs.Common.{rules, arith}
use Rattle.std.specs.Prelude.{IsErr}
use Rattle.mbac_top.proofs.Pieces.{failed}
use Rattle.mbac_top.proofs.refusals.write_refusal.Goals as goal

pub returns-in_err-write_fields : goal.returns-in_err-write_fields
returns-in_err-write_fields g c =
    let law = c.pieces_make_a_text.ensures in
    let first = c.in_ok-write_all.ensures in
    let name = rw (c.as_bytes.ensures.value, c.refusal_name.ensures) at first.written in
    let next = c.in_err-write_fields.ensures in
    let is : IsErr c.from_residual-in_err-write_fields.result = search rules in
    let part = law.part_of_next _ _ _ _ _ name next.0 in
    let rose = law.rose_later _ _ _ first.never_falls next.1 in
    failed _ _ _ is part rose (omega (arith, first.never_falls, next.2))
