use Rattle.std.proofs.Common.{ap, arith}
use Rattle.std.proofs.lemmas.Result.{IfOk-weaker}
use Rattle.sequence_tables.proofs.Tables.{star_stands}
use Rattle.sequence_tables.proofs.building.again_and_again.Goals as goal

pub made-requires : goal.made-requires
made-requires c = c.new.ensures.fits 2147483647 tt (c.are_small.ensures.left c.if-are_small.true) (omega arith)

pub returns-then-are_small : goal.returns-then-are_small
returns-then-are_small c =
    let x = c.new.result in
    IfOk-weaker c.made.result _ _
    (λ t made. star_stands x.inner.now c.args.body.now t (ap (λ z. z.inner.now) c.new.ensures.made)
    c.new.ensures.words made)
    c.made.ensures
