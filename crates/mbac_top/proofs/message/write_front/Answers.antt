use Rattle.std.proofs.Common.{rules, arith}
use Rattle.std.specs.Prelude.{IsErr}
use Rattle.mbac_top.proofs.Pieces.{failed}
use Rattle.mbac_top.proofs.message.write_front.Goals as goal

pub returns-in_err-write_all : goal.returns-in_err-write_all
returns-in_err-write_all g c =
    let law = c.pieces_make_a_text.ensures in
    let piece = c.in_err-write_all.ensures in
    let is : IsErr c.from_residual.result = search rules in
    failed _ _ _ is (law.part_of_first _ _ _ _ piece.failed_part) piece.failed_rose (omega (arith, piece.never_falls))

pub returns-in_err-write_words : goal.returns-in_err-write_words
returns-in_err-write_words g c =
    let law = c.pieces_make_a_text.ensures in
    let first = c.in_ok-write_all.ensures in
    let next = c.in_err-write_words.ensures in
    let is : IsErr c.from_residual-in_err-write_words.result = search rules in
    let part = law.part_of_next _ _ _ _ _ first.written next.0 in
    let rose = law.rose_later _ _ _ first.never_falls next.1 in
    failed _ _ _ is part rose (omega (arith, first.never_falls, next.2))
