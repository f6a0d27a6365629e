-- What a longer netlist keeps.
use Rattle.std.specs.Prelude.{ℕ, suc, ◌≡◌, ◌<◌, ◌++◌, List, [], ◌∷◌, Option, Some, None, IfSome, length}
use Rattle.std.specs.Prelude.{slice_get}
use Rattle.std.proofs.Common.{refl, sym, ap, ◌∙◌, subst, arith, length-append}
use Rattle.psl_model.specs.Value.{own_value}
use Rattle.circuit_core.specs.Netlist.{Op, bit, eot, guard, not, and, or, register, Node, Register, Netlist}
use Rattle.circuit_core.specs.Run.{Stream, Run, Inputs, truth, Equation, IsRegisterStream, IsRunOf, InEachRun}
use Rattle.circuit_core.specs.Growth.{Extends}
use Rattle.circuit_core.proofs.Lists.{get_append, get_last}

-- a register with its first value, and with its next where it has one
pub record Keeps (x y : Register) : Type 0 where
  pub initial : y.initial ≡ x.initial
  pub next : IfSome x.next (λ n. y.next ≡ Some n)

-- each register is kept so
abbrev pub KeepEach : Netlist → Netlist → Type 0
KeepEach old new = (r : ℕ) (x : Register) → slice_get old.registers r ≡ Some x →
    (y : Register) × (slice_get new.registers r ≡ Some y) × Keeps x y

keeps_next : (inputs : Inputs) (run : Run) (stream : Stream) (o p : Option ℕ) → IfSome o (λ n. p ≡ Some n) →
    IfSome p (λ next. (n : ℕ) → suc n < length inputs.trace → stream (suc n) ≡ run next n) →
    IfSome o (λ next. (n : ℕ) → suc n < length inputs.trace → stream (suc n) ≡ run next n)
keeps_next inputs run stream None p h s = tt
keeps_next inputs run stream (Some next) p h s =
    subst (λ (q : Option ℕ). IfSome q (λ next. (n : ℕ) → suc n < length inputs.trace → stream (suc n) ≡ run next n)) h s

keeps_stream : (inputs : Inputs) (run : Run) (stream : Stream) (x y : Register) → Keeps x y →
    IsRegisterStream inputs run stream y → IsRegisterStream inputs run stream x
keeps_stream inputs run stream x y k s = record {
  begins = λ some. s.begins some ∙ k.initial;
  goes_on = keeps_next inputs run stream x.next y.next k.next s.goes_on;
}

equation_kept : (old new : Netlist) → new.widths ≡ old.widths → KeepEach old new → (inputs : Inputs) (run : Run)
    (stream : Stream) (op : Op) → Equation new inputs run stream op → Equation old inputs run stream op
equation_kept old new w regs inputs run stream (bit b) h = h
equation_kept old new w regs inputs run stream eot h = h
equation_kept old new w regs inputs run stream (guard e) h =
    λ n values at. h n values at ∙ ap (λ (ws : List ℕ). truth (own_value ws values e)) w
equation_kept old new w regs inputs run stream (not a) h = h
equation_kept old new w regs inputs run stream (and a b) h = h
equation_kept old new w regs inputs run stream (or a b) h = h
equation_kept old new w regs inputs run stream (register r) h =
    λ x at. let y = regs r x at in keeps_stream inputs run stream x y.0 y.2 (h y.0 y.1)

pub runs_kept : (old new : Netlist) → new.widths ≡ old.widths →
    ((k : ℕ) (node : Node) → slice_get old.nodes k ≡ Some node → slice_get new.nodes k ≡ Some node) →
    KeepEach old new → InEachRun new (λ inputs run. IsRunOf old inputs run)
runs_kept old new w nodes regs inputs run h = record {
  nets = λ k node at. equation_kept old new w regs inputs run (run k) node.op (h.nets k node (nodes k node at));
}

next_same : (o : Option ℕ) → IfSome o (λ n. o ≡ Some n)
next_same None = tt
next_same (Some n) = refl

pub keeps_self : (x : Register) → Keeps x x
keeps_self x = record { initial = refl; next = next_same x.next }

pub extends_self : (m : Netlist) → Extends m m
extends_self m = record {
  widths = refl;
  nodes = λ k node h. h;
  more_nodes = omega arith;
  registers = λ r x h. h;
  more_registers = omega arith;
  output = refl;
  runs = λ inputs run h. h;
}

-- a node more
extends_node : (m : Netlist) (node : Node) → Extends m (record m { nodes = m.nodes ++ node ∷ [] })
extends_node m node = record {
  widths = refl;
  nodes = λ k p at. get_append m.nodes (node ∷ []) k p at;
  more_nodes = omega (arith, length-append m.nodes (node ∷ []));
  registers = λ r x at. at;
  more_registers = omega arith;
  output = refl;
  runs = runs_kept m (record m { nodes = m.nodes ++ node ∷ [] }) refl
      (λ k p at. get_append m.nodes (node ∷ []) k p at) (λ r x at. (x, at, keeps_self x));
}

-- a register more
extends_register : (m : Netlist) (x : Register) → Extends m (record m { registers = m.registers ++ x ∷ [] })
extends_register m x = record {
  widths = refl;
  nodes = λ k p at. at;
  more_nodes = omega arith;
  registers = λ r y at. get_append m.registers (x ∷ []) r y at;
  more_registers = omega (arith, length-append m.registers (x ∷ []));
  output = refl;
  runs = runs_kept m (record m { registers = m.registers ++ x ∷ [] }) refl (λ k p at. at)
      (λ r y at. (y, get_append m.registers (x ∷ []) r y at, keeps_self y));
}

pub extends_node_at : (m new : Netlist) (node : Node) → new ≡ record m { nodes = m.nodes ++ node ∷ [] } → Extends m new
extends_node_at m new node e = subst (λ (x : Netlist). Extends m x) (sym e) (extends_node m node)

pub extends_register_at : (m new : Netlist) (x : Register) → new ≡ record m { registers = m.registers ++ x ∷ [] } →
    Extends m new
extends_register_at m new x e = subst (λ (y : Netlist). Extends m y) (sym e) (extends_register m x)

pub extends_same : (m new : Netlist) → new ≡ m → Extends m new
extends_same m new e = subst (λ (y : Netlist). Extends m y) (sym e) (extends_self m)

pub node_there : (m new : Netlist) (node : Node) (k : ℕ) → k ≡ length m.nodes →
    new ≡ record m { nodes = m.nodes ++ node ∷ [] } → slice_get new.nodes k ≡ Some node
node_there m new node k at e = rw (e, at) (get_last m.nodes node)

pub register_there : (m new : Netlist) (x : Register) (k : ℕ) → k ≡ length m.registers →
    new ≡ record m { registers = m.registers ++ x ∷ [] } → slice_get new.registers k ≡ Some x
register_there m new x k at e = rw (e, at) (get_last m.registers x)

pub finished_runs : (m : Netlist) (out : ℕ) →
    InEachRun (record m { output = Some out }) (λ inputs run. IsRunOf m inputs run)
finished_runs m out =
    runs_kept m (record m { output = Some out }) refl (λ k node at. at) (λ r x at. (x, at, keeps_self x))

-- the same of a netlist as a call sees its parts
pub output_runs : (old seen : Netlist) (out : ℕ) → seen ≡ old →
    InEachRun (record seen { output = Some out }) (λ inputs run. IsRunOf old inputs run)
output_runs old seen out view = subst
    (λ (m : Netlist). InEachRun (record seen { output = Some out }) (λ inputs run. IsRunOf m inputs run)) view
    (finished_runs seen out)
