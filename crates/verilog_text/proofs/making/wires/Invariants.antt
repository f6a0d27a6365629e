use Rattle.std.proofs.Common.{◌≡◌, map, take}
use Rattle.circuit_core.specs.declared.nodes.Node.{Node}
use Rattle.circuit_core.specs.View as net
use Rattle.verilog_text.specs.View.{wire_of}
use Rattle.verilog_text.specs.inner.Translation as made
use Rattle.verilog_text.proofs.making.wires.Given as goal

abbrev pub invariant-loop-node : goal.invariant-loop-node
invariant-loop-node l = map wire_of l.wires
    ≡ map (λ (node : Node). made.wire_of l.places.registers l.places.wires (net.node_of node))
    (take l.node-index l.nodes)
