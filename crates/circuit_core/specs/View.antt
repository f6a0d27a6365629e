-- From the code's nodes and registers to the plain ones.
use Rattle.std.specs.Prelude.{ℕ, Option, Some, None}
use Rattle.psl_model.specs.View.{expr_of}
use Rattle.circuit_core.specs.declared.nodes.Net.{Net}
use Rattle.circuit_core.specs.declared.nodes.NetReg.{NetReg}
use Rattle.circuit_core.specs.declared.nodes.Node as node
use Rattle.circuit_core.specs.declared.nodes.Op as code
use Rattle.circuit_core.specs.declared.nodes.Op.TheVariants.{Bit, Eot, Guard, Not, And, Or, Register}
use Rattle.circuit_core.specs.Netlist as plain

abbrev pub op_of : code.Op → plain.Op
op_of (Bit b) = plain.bit b
op_of Eot = plain.eot
op_of (Guard e) = plain.guard (expr_of e)
op_of (Not a) = plain.not a.0
op_of (And a b) = plain.and a.0 b.0
op_of (Or a b) = plain.or a.0 b.0
op_of (Register r) = plain.register r.0

abbrev pub node_of : node.Node → plain.Node
node_of n = record { width = n.width; op = op_of n.op }

abbrev pub net_of : Option Net → Option ℕ
net_of None = None
net_of (Some k) = Some k.0

abbrev pub register_of : NetReg → plain.Register
register_of r = record { width = r.width; initial = r.init; next = net_of r.next }
