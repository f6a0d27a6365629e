use Rattle.automata_product.proofs.FusePlaces.{joint_within, joint_leads}
use Rattle.automata_product.proofs.fuse.Fuse.joint_target.Goals as goal

pub nonzero_rem-place : goal.nonzero_rem-place
nonzero_rem-place g c =
    (joint_within (g.A.Auto.machine c.args.self.now.left) (g.B.Auto.machine c.args.self.now.right) c.args.state
    c.start-start.result c.edge_count-count.result c.args.place
    c.start-start.ensures.value c.edge_count-count.ensures c.requires.there).0

pub target-requires-clause-there : goal.target-requires-clause-there
target-requires-clause-there g c =
    (joint_within (g.A.Auto.machine c.args.self.now.left) (g.B.Auto.machine c.args.self.now.right) c.args.state
    c.start-start.result c.edge_count-count.result c.args.place
    c.start-start.ensures.value c.edge_count-count.ensures c.requires.there).2

pub returns-clause-edge : goal.returns-clause-edge
returns-clause-edge g c =
    joint_leads (g.A.Auto.machine c.args.self.now.left) (g.B.Auto.machine c.args.self.now.right) c.args.state
    c.start-start.result c.edge_count-count.result c.args.place c.target.result
    c.start-start.ensures.value c.edge_count-count.ensures c.requires.there c.target.ensures.edge
