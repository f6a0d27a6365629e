use Rattle.std.proofs.Common.{rules, arith}
use Rattle.std.specs.Prelude.{IsErr}
use Rattle.mbac_top.proofs.Pieces.{failed}
use Rattle.mbac_top.proofs.numbers.write_number.Goals as goal

pub returns-in_err-write_all-2 : goal.returns-in_err-write_all-2
returns-in_err-write_all-2 g c =
    let law = c.pieces_make_a_text.ensures in
    let first = c.in_ok-write_all.ensures in
    let next = c.in_err-write_all-2.ensures in
    let is : IsErr c.from_residual-in_err-write_all-2.result = search rules in
    let part =
    law.part_of_next _ _ _ _ _ first.written
    (rw (c.as_bytes.ensures.value, c.format.ensures.text) at next.failed_part) in
    let rose = law.rose_later _ _ _ first.never_falls next.failed_rose in
    failed _ _ _ is part rose (omega (arith, first.never_falls, next.never_falls))
