use Rattle.std.proofs.lemmas.List.{map_push}
use Rattle.circuit_core.specs.View.{op_of, node_of}
use Rattle.circuit_core.proofs.Making.{pushed_node}
use Rattle.circuit_core.proofs.netlist.Netlist.push.Goals as goal

pub invariant_of-self-2 : goal.invariant_of-self-2
invariant_of-self-2 c =
    pushed_node c.args.self.now _ c.self.view_is c.self.invariant (op_of c.args.op) _
    (rw c.in_ok-push.ensures.items (map_push node_of c.self.inside.nodes.items (record { width = 1; op = c.args.op })))
    c.requires
