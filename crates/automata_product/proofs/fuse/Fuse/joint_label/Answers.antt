use Rattle.std.proofs.lemmas.Result.{on_ok_weaker}
use Rattle.automata_product.specs.Fuse.{joint_edges}
use Rattle.automata_product.proofs.Put.{passes-puts}
use Rattle.automata_product.proofs.FusePlaces.{joint_within, joint_puts}
use Rattle.automata_product.proofs.fuse.Fuse.joint_label.Goals as goal

pub nonzero_div-place : goal.nonzero_div-place
nonzero_div-place g c =
    (joint_within (g.A.Auto.machine c.args.self.now.left) (g.B.Auto.machine c.args.self.now.right) c.args.state
    c.start-start.result c.edge_count-count.result c.args.place
    c.start-start.ensures.value c.edge_count-count.ensures c.requires.there).0

pub last_place-last-requires-clause-there : goal.last_place-last-requires-clause-there
last_place-last-requires-clause-there g c =
    (joint_within (g.A.Auto.machine c.args.self.now.left) (g.B.Auto.machine c.args.self.now.right) c.args.state
    c.start-start.result c.edge_count-count.result c.args.place
    c.start-start.ensures.value c.edge_count-count.ensures c.requires.there).1

pub nonzero_rem-place : goal.nonzero_rem-place
nonzero_rem-place g c =
    (joint_within (g.A.Auto.machine c.args.self.now.left) (g.B.Auto.machine c.args.self.now.right) c.args.state
    c.start-start.result c.edge_count-count.result c.args.place
    c.start-start.ensures.value c.edge_count-count.ensures c.requires.there).0

pub label-requires-2-clause-there : goal.label-requires-2-clause-there
label-requires-2-clause-there g c =
    (joint_within (g.A.Auto.machine c.args.self.now.left) (g.B.Auto.machine c.args.self.now.right) c.args.state
    c.start-start.result c.edge_count-count.result c.args.place
    c.start-start.ensures.value c.edge_count-count.ensures c.requires.there).2

pub returns-clause-edge : goal.returns-clause-edge
returns-clause-edge g c =
    let within = joint_within (g.A.Auto.machine c.args.self.now.left) (g.B.Auto.machine c.args.self.now.right)
    c.args.state
    c.start-start.result c.edge_count-count.result c.args.place
    c.start-start.ensures.value c.edge_count-count.ensures c.requires.there in
    on_ok_weaker c.label-2.result
    (joint_puts (g.A.Auto.machine c.args.self.now.left) (g.B.Auto.machine c.args.self.now.right) c.args.state
    c.a_union_has_the_literals_of_both.ensures.ordered c.a_union_has_the_literals_of_both.ensures.joined
    c.start-start.result c.edge_count-count.result c.args.place c.last_place-last.result
    c.args.onto.now c.label.new.onto c.label-2.new.onto
    c.start-start.ensures.value c.edge_count-count.ensures within.0 c.last_place-last.ensures.same
    c.in_ok-label.ensures.edge)
    c.label-2.ensures.edge

pub returns-clause-passes : goal.returns-clause-passes
returns-clause-passes g c =
    on_ok_weaker c.label-2.result
    (passes-puts c.a_union_has_the_literals_of_both.ensures.passes
    (joint_edges (g.A.Auto.machine c.args.self.now.left) (g.B.Auto.machine c.args.self.now.right) c.args.state)
    c.args.place c.args.onto.now c.label-2.new.onto)
    (returns-clause-edge g c)
