use Rattle.automata_product.proofs.Places.{place_within}
use Rattle.automata_product.proofs.Put.{leads-split}
use Rattle.automata_product.proofs.both.BothAuto.target.Goals as goal

pub nonzero_div-place : goal.nonzero_div-place
nonzero_div-place g c =
    (place_within (λ p q. (p, q)) ((g.A.Auto.machine c.args.self.now.left).edges c.args.state.0)
    ((g.B.Auto.machine c.args.self.now.right).edges c.args.state.1)
    c.args.place c.edge_count-count.result c.edge_count-count.ensures c.requires.there).0

pub target-requires-clause-there : goal.target-requires-clause-there
target-requires-clause-there g c =
    (place_within (λ p q. (p, q)) ((g.A.Auto.machine c.args.self.now.left).edges c.args.state.0)
    ((g.B.Auto.machine c.args.self.now.right).edges c.args.state.1)
    c.args.place c.edge_count-count.result c.edge_count-count.ensures c.requires.there).1

pub nonzero_rem-place : goal.nonzero_rem-place
nonzero_rem-place g c =
    (place_within (λ p q. (p, q)) ((g.A.Auto.machine c.args.self.now.left).edges c.args.state.0)
    ((g.B.Auto.machine c.args.self.now.right).edges c.args.state.1)
    c.args.place c.edge_count-count.result c.edge_count-count.ensures c.requires.there).0

pub target-requires-2-clause-there : goal.target-requires-2-clause-there
target-requires-2-clause-there g c =
    (place_within (λ p q. (p, q)) ((g.A.Auto.machine c.args.self.now.left).edges c.args.state.0)
    ((g.B.Auto.machine c.args.self.now.right).edges c.args.state.1)
    c.args.place c.edge_count-count.result c.edge_count-count.ensures c.requires.there).2

pub returns-clause-edge : goal.returns-clause-edge
returns-clause-edge g c =
    let within = place_within (λ p q. (p, q)) ((g.A.Auto.machine c.args.self.now.left).edges c.args.state.0)
    ((g.B.Auto.machine c.args.self.now.right).edges c.args.state.1)
    c.args.place c.edge_count-count.result c.edge_count-count.ensures c.requires.there in
    leads-split (λ p q. (p, q)) ((g.A.Auto.machine c.args.self.now.left).edges c.args.state.0)
    ((g.B.Auto.machine c.args.self.now.right).edges c.args.state.1)
    c.args.place c.edge_count-count.result c.target.result c.target-2.result
    c.edge_count-count.ensures within.0 c.target.ensures.edge c.target-2.ensures.edge
