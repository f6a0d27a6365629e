use Rattle.std.proofs.Common.{◌-◌, arith}
use Rattle.std.proofs.lemmas.Result.{on_ok_weaker}
use Rattle.automata_product.proofs.FusePlaces.{left_at, after_left_at}
use Rattle.automata_product.proofs.Put.{Puts, Passing}
use Rattle.automata_product.proofs.fuse.Fuse.left_label.Goals as goal

pub returns-then-place-count-clause-edge : goal.returns-then-place-count-clause-edge
returns-then-place-count-clause-edge g c =
    on_ok_weaker c.label.result
    (left_at (g.A.Auto.machine c.args.self.now.left) (g.B.Auto.machine c.args.self.now.right) c.args.state
    (Puts c.args.onto.now c.label.new.onto) c.args.place)
    c.label.ensures.edge

pub returns-else-place-count-clause-edge : goal.returns-else-place-count-clause-edge
returns-else-place-count-clause-edge g c =
    on_ok_weaker c.joint_label.result
    (after_left_at (g.A.Auto.machine c.args.self.now.left) (g.B.Auto.machine c.args.self.now.right) c.args.state
    (Puts c.args.onto.now c.joint_label.new.onto) c.args.place (c.args.place - c.edge_count-count.result)
    c.edge_count-count.result c.edge_count-count.ensures (omega arith))
    c.joint_label.ensures.edge

pub returns-then-place-count-clause-passes : goal.returns-then-place-count-clause-passes
returns-then-place-count-clause-passes g c =
    on_ok_weaker c.label.result
    (left_at (g.A.Auto.machine c.args.self.now.left) (g.B.Auto.machine c.args.self.now.right) c.args.state
    (Passing c.args.onto.now c.label.new.onto) c.args.place)
    c.label.ensures.passes

pub returns-else-place-count-clause-passes : goal.returns-else-place-count-clause-passes
returns-else-place-count-clause-passes g c =
    on_ok_weaker c.joint_label.result
    (after_left_at (g.A.Auto.machine c.args.self.now.left) (g.B.Auto.machine c.args.self.now.right) c.args.state
    (Passing c.args.onto.now c.joint_label.new.onto) c.args.place (c.args.place - c.edge_count-count.result)
    c.edge_count-count.result c.edge_count-count.ensures (omega arith))
    c.joint_label.ensures.passes
