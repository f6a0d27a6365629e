use Rattle.automata_product.specs.declared.side.Side.TheVariants.{Left, Right}
use Rattle.automata_product.proofs.Put.{first_leads, then_leads}
use Rattle.automata_product.proofs.side.either_target.Goals as goal

pub returns-then-place-count-clause-edge : goal.returns-then-place-count-clause-edge
returns-then-place-count-clause-edge g c =
    first_leads Left Right ((g.A.Auto.machine c.args.left.now).edges c.args.p)
    ((g.B.Auto.machine c.args.right.now).edges c.args.q)
    c.args.place c.target.result c.target.ensures.edge

pub returns-else-place-count-clause-edge : goal.returns-else-place-count-clause-edge
returns-else-place-count-clause-edge g c =
    then_leads Left Right ((g.A.Auto.machine c.args.left.now).edges c.args.p)
    ((g.B.Auto.machine c.args.right.now).edges c.args.q)
    c.edge_count-count.result c.args.place c.target-else-place-count.result c.edge_count-count.ensures
    c.if-place-count.false c.target-else-place-count.ensures.edge
