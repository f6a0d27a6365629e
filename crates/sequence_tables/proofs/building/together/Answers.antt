use Rattle.std.proofs.Common.{ap, arith}
use Rattle.std.proofs.lemmas.Result.{IfOk-weaker}
use Rattle.sequence_tables.proofs.Tables.{both_stands}
use Rattle.sequence_tables.proofs.building.together.Goals as goal

pub made-requires : goal.made-requires
made-requires c =
    c.new.ensures.fits 2147483647 2147483647 tt tt (c.are_small.ensures.left c.if-are_small.true)
    (c.are_small.ensures.right c.if-are_small.true) (omega arith) (omega arith)

pub returns-then-are_small : goal.returns-then-are_small
returns-then-are_small c =
    let x = c.new.result in
    IfOk-weaker c.made.result _ _
    (λ t made. both_stands x.left.now x.right.now c.args.left.now c.args.right.now t
    (ap (λ z. z.left.now) c.new.ensures.made) (ap (λ z. z.right.now) c.new.ensures.made) c.new.ensures.words made)
    c.made.ensures
