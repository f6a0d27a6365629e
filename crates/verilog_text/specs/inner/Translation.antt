-- The module of a netlist: a wire for each node, a register for each register.
--     module_for m face      the module
--     NodeFits rs ws op      the places that the node's wire names can be counted in 64 bits
-- `rs` and `ws` are the places of the first register and of the first wire in the module's table of names.
use Rattle.std.specs.Prelude.{ℕ, ◌+◌, ◌<◌, ◌^◌, List, map, length, Option, Some, None}
use Rattle.psl_model.specs.declared.operators.UnOp.TheVariants.{Not, AnyOne}
use Rattle.psl_model.specs.declared.operators.BinOp.TheVariants.{And, Or}
use Rattle.psl_model.specs.declared.names.Signal.{Signal}
use Rattle.psl_model.specs.Expr.{Expr, whole, bit, part, plain, sized, unary, binary, choice}
use Rattle.psl_model.specs.Moved.{moved}
use Rattle.circuit_core.specs.Netlist as net
use Rattle.circuit_core.specs.Netlist.{Op, eot, guard, not, and, or, register, Netlist}
use Rattle.circuit_core.specs.Run.{number}
use Rattle.verilog_text.specs.Module.{Module, Register, Wire}

-- what isn't made of the netlist
pub record Face : Type 0 where
  pub name : List ℕ
  pub report : Option (List ℕ)
  pub ports : List Signal

abbrev pub first_register : List Signal → ℕ
first_register ports = 2 + length ports

abbrev pub first_wire : Netlist → List Signal → ℕ
first_wire m ports = 2 + length ports + length m.registers

abbrev pub wire_name : (ws k : ℕ) → Expr
wire_name ws k = whole (ws + k)

abbrev pub node_value : (rs ws : ℕ) → Op → Expr
node_value rs ws (net.bit b) = sized 1 (number b)
node_value rs ws eot = whole 1
node_value rs ws (guard e) = unary AnyOne (moved 2 e)
node_value rs ws (not a) = unary Not (wire_name ws a)
node_value rs ws (and a b) = binary And (wire_name ws a) (wire_name ws b)
node_value rs ws (or a b) = binary Or (wire_name ws a) (wire_name ws b)
node_value rs ws (register r) = whole (rs + r)

-- 0 for a net that isn't set, which no finished netlist has
abbrev pub net_value : (ws : ℕ) → Option ℕ → Expr
net_value ws None = sized 1 0
net_value ws (Some k) = wire_name ws k

abbrev pub wire_of : (rs ws : ℕ) → net.Node → Wire
wire_of rs ws node = record { width = node.width; value = node_value rs ws node.op }

abbrev pub register_of : (ws : ℕ) → net.Register → Register
register_of ws x = record { width = x.width; initial = x.initial; next = net_value ws x.next }

abbrev pub module_for : Netlist → Face → Module
module_for m face = record {
  name = face.name;
  report = face.report;
  ports = face.ports;
  registers = map (register_of (first_wire m face.ports)) m.registers;
  wires = map (wire_of (first_register face.ports) (first_wire m face.ports)) m.nodes;
  fail = net_value (first_wire m face.ports) m.output;
}

-- a place that a `usize` holds
abbrev pub Fits : ℕ → Type 0
Fits place = place < 2 ^ 64

-- the places of the signals, moved behind `mbac_rst` and `mbac_eot`
abbrev pub SignalsFit : Expr → Type 0
SignalsFit (whole signal) = Fits (2 + signal)
SignalsFit (bit signal place) = Fits (2 + signal)
SignalsFit (part signal high low) = Fits (2 + signal)
SignalsFit (plain number) = Unit {0}
SignalsFit (sized width value) = Unit {0}
SignalsFit (unary op a) = SignalsFit a
SignalsFit (binary op a b) = SignalsFit a × SignalsFit b
SignalsFit (choice test first second) = SignalsFit test × SignalsFit first × SignalsFit second

abbrev pub NodeFits : (rs ws : ℕ) → Op → Type 0
NodeFits rs ws (net.bit b) = Unit {0}
NodeFits rs ws eot = Unit {0}
NodeFits rs ws (guard e) = SignalsFit e
NodeFits rs ws (not a) = Fits (ws + a)
NodeFits rs ws (and a b) = Fits (ws + a) × Fits (ws + b)
NodeFits rs ws (or a b) = Fits (ws + a) × Fits (ws + b)
NodeFits rs ws (register r) = Fits (rs + r)
