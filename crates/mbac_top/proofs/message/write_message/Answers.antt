use Rattle.std.proofs.Common.{rules, arith}
use Rattle.std.specs.Prelude.{IsErr}
use Rattle.mbac_top.proofs.Pieces.{failed}
use Rattle.mbac_top.proofs.message.write_message.Goals as goal

pub returns-in_err-write_front : goal.returns-in_err-write_front
returns-in_err-write_front g c =
    let law = c.pieces_make_a_text.ensures in
    let piece = c.in_err-write_front.ensures in
    let is : IsErr c.from_residual.result = search rules in
    failed _ _ _ is (law.part_of_first _ _ _ _ piece.0) piece.1 (omega (arith, piece.2))

pub returns-in_err-write_all : goal.returns-in_err-write_all
returns-in_err-write_all g c =
    let law = c.pieces_make_a_text.ensures in
    let first = c.in_ok-write_front.ensures in
    let next = c.in_err-write_all.ensures in
    let is : IsErr c.from_residual-in_err-write_all.result = search rules in
    let part = law.part_of_next _ _ _ _ _ first.0 next.failed_part in
    let rose = law.rose_later _ _ _ first.1 next.failed_rose in
    failed _ _ _ is part rose (omega (arith, first.1, next.never_falls))
