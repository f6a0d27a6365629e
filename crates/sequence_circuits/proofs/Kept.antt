-- What is kept where netlists grow.
use Rattle.std.specs.Prelude.{ℕ}
use Rattle.std.proofs.Common.{refl, ◌∙◌, arith}
use Rattle.circuit_core.specs.Netlist.{Netlist}
use Rattle.circuit_core.specs.Run.{Run, InEachCycle}
use Rattle.circuit_core.specs.Growth.{Extends}

pub extends_self : (m : Netlist) → Extends m m
extends_self m = record {
  widths = refl;
  nodes = λ k node h. h;
  more_nodes = omega arith;
  registers = λ r x h. h;
  more_registers = omega arith;
  output = refl;
  runs = λ inputs run h. h;
}

pub extends_trans : (a b c : Netlist) → Extends a b → Extends b c → Extends a c
extends_trans a b c x y = record {
  widths = y.widths ∙ x.widths;
  nodes = λ k node h. y.nodes k node (x.nodes k node h);
  more_nodes = omega (arith, x.more_nodes, y.more_nodes);
  registers = λ r z h. y.registers r z (x.registers r z h);
  more_registers = omega (arith, x.more_registers, y.more_registers);
  output = y.output ∙ x.output;
  runs = λ inputs run h. x.runs inputs run (y.runs inputs run h);
}

pub cycles_kept : (old new : Netlist) (P : Run → ℕ → Type 0) → Extends old new → InEachCycle old P → InEachCycle new P
cycles_kept old new P x h inputs run r = h inputs run (x.runs inputs run r)
