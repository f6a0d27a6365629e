use Rattle.std.proofs.lemmas.Result.{on_ok_weaker}
use Rattle.auto_core.specs.Edges.{products}
use Rattle.automata_product.proofs.Places.{place_within}
use Rattle.automata_product.proofs.Put.{puts-split, passes-puts}
use Rattle.automata_product.proofs.both.BothAuto.label.Goals as goal

pub nonzero_div-place : goal.nonzero_div-place
nonzero_div-place g c =
    (place_within (λ p q. (p, q)) ((g.A.Auto.machine c.args.self.now.left).edges c.args.state.0)
    ((g.B.Auto.machine c.args.self.now.right).edges c.args.state.1)
    c.args.place c.edge_count-count.result c.edge_count-count.ensures c.requires.there).0

pub label-requires-clause-there : goal.label-requires-clause-there
label-requires-clause-there g c =
    (place_within (λ p q. (p, q)) ((g.A.Auto.machine c.args.self.now.left).edges c.args.state.0)
    ((g.B.Auto.machine c.args.self.now.right).edges c.args.state.1)
    c.args.place c.edge_count-count.result c.edge_count-count.ensures c.requires.there).1

pub nonzero_rem-place : goal.nonzero_rem-place
nonzero_rem-place g c =
    (place_within (λ p q. (p, q)) ((g.A.Auto.machine c.args.self.now.left).edges c.args.state.0)
    ((g.B.Auto.machine c.args.self.now.right).edges c.args.state.1)
    c.args.place c.edge_count-count.result c.edge_count-count.ensures c.requires.there).0

pub label-requires-2-clause-there : goal.label-requires-2-clause-there
label-requires-2-clause-there g c =
    (place_within (λ p q. (p, q)) ((g.A.Auto.machine c.args.self.now.left).edges c.args.state.0)
    ((g.B.Auto.machine c.args.self.now.right).edges c.args.state.1)
    c.args.place c.edge_count-count.result c.edge_count-count.ensures c.requires.there).2

pub returns-clause-edge : goal.returns-clause-edge
returns-clause-edge g c =
    let within = place_within (λ p q. (p, q)) ((g.A.Auto.machine c.args.self.now.left).edges c.args.state.0)
    ((g.B.Auto.machine c.args.self.now.right).edges c.args.state.1)
    c.args.place c.edge_count-count.result c.edge_count-count.ensures c.requires.there in
    on_ok_weaker c.label-2.result
    (puts-split (λ p q. (p, q)) ((g.A.Auto.machine c.args.self.now.left).edges c.args.state.0)
    ((g.B.Auto.machine c.args.self.now.right).edges c.args.state.1)
    c.a_union_has_the_literals_of_both.ensures.ordered c.a_union_has_the_literals_of_both.ensures.joined
    c.args.place c.edge_count-count.result c.args.onto.now c.label.new.onto c.label-2.new.onto
    c.edge_count-count.ensures within.0 c.in_ok-label.ensures.edge)
    c.label-2.ensures.edge

pub returns-clause-passes : goal.returns-clause-passes
returns-clause-passes g c =
    on_ok_weaker c.label-2.result
    (passes-puts c.a_union_has_the_literals_of_both.ensures.passes
    (products (λ p q. (p, q)) ((g.A.Auto.machine c.args.self.now.left).edges c.args.state.0)
    ((g.B.Auto.machine c.args.self.now.right).edges c.args.state.1))
    c.args.place c.args.onto.now c.label-2.new.onto)
    (returns-clause-edge g c)
