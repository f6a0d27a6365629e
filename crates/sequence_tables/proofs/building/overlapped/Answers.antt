use Rattle.std.proofs.Common.{◌<◌, length, ap, arith, subst}
use Rattle.std.proofs.lemmas.Result.{IfOk-weaker}
use Rattle.psl_meaning.specs.Sequence.{fuse}
use Rattle.auto_core.specs.Edges.{HasAtMost}
use Rattle.auto_core.specs.Graph.{Graph, graph_machine}
use Rattle.sequence_tables.specs.inner.Built.{MakesOfTwo}
use Rattle.sequence_tables.proofs.Tables.{fuse_stands}
use Rattle.sequence_tables.proofs.building.overlapped.Goals as goal

pub made-requires : goal.made-requires
made-requires c =
    let small =
    subst (λ (g : Graph). HasAtMost (λ s. s < length g.accepting) (graph_machine g) 2147483647) c.table.ensures.same
    (c.are_small.ensures.left c.if-are_small.true) in
    c.new-then-are_small.ensures.fits 2147483647 2147483647 tt tt small (c.are_small.ensures.right c.if-are_small.true)
    (omega arith) (omega arith)

pub returns-then-are_small : goal.returns-then-are_small
returns-then-are_small c =
    let x = c.new-then-are_small.result in
    IfOk-weaker c.made.result _ _
    (λ t made. subst (λ (g : Graph). MakesOfTwo (λ r s. fuse r s) g c.args.right.now t) c.in_ok-left.ensures.same
    (fuse_stands x.left.now x.right.now c.in_ok-left.left c.args.right.now t
    (ap (λ z. z.left.now) c.new-then-are_small.ensures.made) (ap (λ z. z.right.now) c.new-then-are_small.ensures.made)
    c.new-then-are_small.ensures.words made))
    c.made.ensures
