use Rattle.std.proofs.Common.{rules, arith, List, ℕ, ◌+◌, subst, sym, drop}
use Rattle.std.specs.Prelude.{IsErr}
use Rattle.mbac_io.specs.Device.{AppendsPart}
use Rattle.mbac_top.specs.Messages.{numbers_of}
use Rattle.mbac_top.proofs.Pieces.{failed, numbers_of-more, numbers_of-split}
use Rattle.mbac_top.proofs.numbers.write_numbers.Goals as goal

pub returns-in_err-write_number : goal.returns-in_err-write_number
returns-in_err-write_number g c =
    let law = c.pieces_make_a_text.ensures in
    let numbers = c.args.numbers.now in
    let place = c.loop-number.number-index in
    let before = c.loop-number.invariant in
    let next = c.in_err-write_number.ensures in
    let is : IsErr c.from_residual.result = search rules in
    let Part : List ℕ →
    Type 0 = λ text. AppendsPart (g.N.Sink.taken c.args.notes.now) (g.N.Sink.taken c.write_number.new.notes) text in
    let some =
    subst Part (sym (numbers_of-more numbers place c.loop-number-test.true))
    (law.part_of_next _ _ _ _ _ before.written next.0) in
    let part =
    subst Part (numbers_of-split numbers (place + 1))
    (law.part_of_first _ _ _ (numbers_of (drop (place + 1) numbers)) some) in
    let rose = law.rose_later _ _ _ before.never_falls next.1 in
    failed _ _ _ is part rose (omega (arith, before.never_falls, next.2))
