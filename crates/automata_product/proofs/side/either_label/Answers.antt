use Rattle.std.proofs.lemmas.Result.{on_ok_weaker}
use Rattle.automata_product.specs.declared.side.Side.TheVariants.{Left, Right}
use Rattle.automata_product.proofs.Put.{first_at, then_at, Puts, Passing}
use Rattle.automata_product.proofs.side.either_label.Goals as goal

pub returns-then-place-count-clause-edge : goal.returns-then-place-count-clause-edge
returns-then-place-count-clause-edge g c =
    on_ok_weaker c.label.result
    (first_at Left Right ((g.A.Auto.machine c.args.left.now).edges c.args.p)
    ((g.B.Auto.machine c.args.right.now).edges c.args.q)
    (Puts c.args.onto.now c.label.new.onto) c.args.place)
    c.label.ensures.edge

pub returns-else-place-count-clause-edge : goal.returns-else-place-count-clause-edge
returns-else-place-count-clause-edge g c =
    on_ok_weaker c.label-else-place-count.result
    (then_at Left Right ((g.A.Auto.machine c.args.left.now).edges c.args.p)
    ((g.B.Auto.machine c.args.right.now).edges c.args.q)
    (Puts c.args.onto.now c.label-else-place-count.new.onto) c.edge_count-count.result c.args.place
    c.edge_count-count.ensures c.if-place-count.false)
    c.label-else-place-count.ensures.edge

pub returns-then-place-count-clause-passes : goal.returns-then-place-count-clause-passes
returns-then-place-count-clause-passes g c =
    on_ok_weaker c.label.result
    (first_at Left Right ((g.A.Auto.machine c.args.left.now).edges c.args.p)
    ((g.B.Auto.machine c.args.right.now).edges c.args.q)
    (Passing c.args.onto.now c.label.new.onto) c.args.place)
    c.label.ensures.passes

pub returns-else-place-count-clause-passes : goal.returns-else-place-count-clause-passes
returns-else-place-count-clause-passes g c =
    on_ok_weaker c.label-else-place-count.result
    (then_at Left Right ((g.A.Auto.machine c.args.left.now).edges c.args.p)
    ((g.B.Auto.machine c.args.right.now).edges c.args.q)
    (Passing c.args.onto.now c.label-else-place-count.new.onto) c.edge_count-count.result c.args.place
    c.edge_count-count.ensures c.if-place-count.false)
    c.label-else-place-count.ensures.passes
