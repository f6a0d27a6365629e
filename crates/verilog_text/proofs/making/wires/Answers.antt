use Rattle.std.proofs.Common.{map, ap, ◌∙◌}
use Rattle.psl_model.specs.Expr.{Expr}
use Rattle.circuit_core.specs.declared.nodes.Node.{Node}
use Rattle.circuit_core.specs.Netlist as plain
use Rattle.circuit_core.specs.View as net
use Rattle.verilog_text.specs.Module.{Wire}
use Rattle.verilog_text.specs.View.{wire_of}
use Rattle.verilog_text.specs.inner.Translation as made
use Rattle.verilog_text.specs.inner.Translation.{NodeFits}
use Rattle.verilog_text.proofs.Translating.{map_step, map_done, all_at}
use Rattle.verilog_text.proofs.making.wires.Goals as goal

pub node_value-requires : goal.node_value-requires
node_value-requires c =
    all_at net.node_of (λ (node : plain.Node). NodeFits c.args.places.registers c.args.places.wires node.op)
    c.args.nodes.now c.loop-node.node-index c.node-item.result c.requires c.loop-node-test.true c.node-item.is

pub loop-node-preserved : goal.loop-node-preserved
loop-node-preserved c =
    let wire : Node → Wire =
    λ node. made.wire_of c.args.places.registers c.args.places.wires (net.node_of node) in
    ap (map wire_of) c.in_ok-push.ensures.ok
    ∙ map_step wire_of wire c.loop-node.wires _ c.args.nodes.now c.loop-node.node-index c.node-item.result
    c.loop-node-test.true c.node-item.is c.loop-node.invariant
    (ap (λ (e : Expr). let w : Wire = record { width = c.node-item.result.width; value = e } in w)
    c.in_ok-value.ensures)

pub returns : goal.returns
returns c =
    map_done net.node_of (made.wire_of c.args.places.registers c.args.places.wires) wire_of c.loop-node.wires
    c.args.nodes.now c.loop-node.node-index c.loop-node.invariant c.loop-node-test.false
