-- Each call leaves a netlist well made.
use Rattle.std.specs.Prelude.{ℕ, ◌≡◌, ◌⊎◌, ◌<◌, ◌≤◌, ◌^◌, ◌++◌, List, [], ◌∷◌, Option, Some, None, IfSome}
use Rattle.std.specs.Prelude.{length, slice_get}
use Rattle.std.proofs.Common.{refl, sym, subst, arith, length-append, inl, inr}
use Rattle.circuit_core.specs.Netlist.{Op, bit, eot, guard, not, and, or, register, one_bit, Node, Register, Netlist}
use Rattle.circuit_core.specs.Netlist.{IsNet}
use Rattle.circuit_core.specs.WellMade.{IsOpAt, IsNodeAt, IsRegister, IsWellMade}
use Rattle.circuit_core.specs.Growth.{opened}
use Rattle.circuit_core.proofs.Lists.{get_pushed}

op_in : (m new : Netlist) → new.widths ≡ m.widths → length m.registers ≤ length new.registers → (k : ℕ) (op : Op) →
    IsOpAt m k op → IsOpAt new k op
op_in m new w more k (bit b) h = tt
op_in m new w more k eot h = tt
op_in m new w more k (guard e) h = rw w h
op_in m new w more k (not a) h = h
op_in m new w more k (and a b) h = h
op_in m new w more k (or a b) h = h
op_in m new w more k (register r) h = omega arith

node_in : (m new : Netlist) → new.widths ≡ m.widths → length m.registers ≤ length new.registers →
    (k : ℕ) (node : Node) →
    IsNodeAt m k node → IsNodeAt new k node
node_in m new w more k node h = record { width = h.width; op = op_in m new w more k node.op h.op }

net_in : (m new : Netlist) → length m.nodes ≤ length new.nodes → (o : Option ℕ) → IfSome o (IsNet m) →
    IfSome o (IsNet new)
net_in m new more None h = tt
net_in m new more (Some k) h = let is : k < length m.nodes = h in let now : k < length new.nodes = omega arith in now

register_in : (m new : Netlist) → length m.nodes ≤ length new.nodes → (x : Register) → IsRegister m x → IsRegister new x
register_in m new more x h = record { width = h.width; fits = h.fits; next = net_in m new more x.next h.next }

-- a node more
pub made_node : (m : Netlist) (op : Op) → IsWellMade m → IsOpAt m (length m.nodes) op →
    IsWellMade (record m { nodes = m.nodes ++ one_bit op ∷ [] })
made_node m op well at =
    let new : Netlist = record m { nodes = m.nodes ++ one_bit op ∷ [] } in
    let more : length m.nodes ≤ length new.nodes = omega (arith, length-append m.nodes (one_bit op ∷ [])) in
    record {
      widths = well.widths;
      nodes = λ k node there. each k node (get_pushed m.nodes (one_bit op) k node there);
      registers = λ r x there. register_in m new more x (well.registers r x there);
      output = net_in m new more m.output well.output;
    }
  where
    each : (k : ℕ) (node : Node) → (slice_get m.nodes k ≡ Some node) ⊎ ((k ≡ length m.nodes) × (one_bit op ≡ node)) →
        IsNodeAt (record m { nodes = m.nodes ++ one_bit op ∷ [] }) k node
    each k node (inl there) =
        node_in m (record m { nodes = m.nodes ++ one_bit op ∷ [] }) refl (omega arith) k node (well.nodes k node there)
    each k node (inr new) =
        let here : IsNodeAt m (length m.nodes) (one_bit op) = record { width = refl; op = at } in
        let moved : IsNodeAt m k (one_bit op) = subst (λ (n : ℕ). IsNodeAt m n (one_bit op)) (sym new.0) here in
        node_in m (record m { nodes = m.nodes ++ one_bit op ∷ [] }) refl (omega arith) k node
        (subst (λ (n : Node). IsNodeAt m k n) new.1 moved)

-- a register more
pub made_register : (m : Netlist) (width initial : ℕ) → IsWellMade m → width ≡ 1 → initial < 2 ^ width →
    IsWellMade (record m { registers = m.registers ++ opened width initial ∷ [] })
made_register m width initial well one fits =
    let new : Netlist = record m { registers = m.registers ++ opened width initial ∷ [] } in
    let more : length m.registers ≤ length new.registers =
    omega (arith, length-append m.registers (opened width initial ∷ [])) in
    record {
      widths = well.widths;
      nodes = λ k node there. node_in m new refl more k node (well.nodes k node there);
      registers = λ r x there. each r x (get_pushed m.registers (opened width initial) r x there);
      output = well.output;
    }
  where
    each : (r : ℕ) (x : Register) →
        (slice_get m.registers r ≡ Some x) ⊎ ((r ≡ length m.registers) × (opened width initial ≡ x)) →
        IsRegister (record m { registers = m.registers ++ opened width initial ∷ [] }) x
    each r x (inl there) =
        register_in m (record m { registers = m.registers ++ opened width initial ∷ [] }) (omega arith) x
        (well.registers r x there)
    each r x (inr new) =
        let here : IsRegister (record m { registers = m.registers ++ opened width initial ∷ [] }) (opened width initial)
        =
        record { width = one; fits = fits; next = tt } in
        subst (λ (y : Register). IsRegister (record m { registers = m.registers ++ opened width initial ∷ [] }) y) new.1
        here

-- the registers changed, each as it may be
pub made_registers : (m : Netlist) (registers : List Register) → IsWellMade m → length m.registers ≤ length registers →
    ((r : ℕ) (x : Register) → slice_get registers r ≡ Some x → IsRegister m x) →
    IsWellMade (record m { registers = registers })
made_registers m registers well more each =
    let new : Netlist = record m { registers = registers } in
    record {
      widths = well.widths;
      nodes = λ k node there. node_in m new refl more k node (well.nodes k node there);
      registers = λ r x there. register_in m new (omega arith) x (each r x there);
      output = well.output;
    }

pub made_output : (m : Netlist) (out : ℕ) → IsWellMade m → IsNet m out → IsWellMade (record m { output = Some out })
made_output m out well is =
    let new : Netlist = record m { output = Some out } in
    record {
      widths = well.widths;
      nodes = λ k node there. node_in m new refl (omega arith) k node (well.nodes k node there);
      registers = λ r x there. register_in m new (omega arith) x (well.registers r x there);
      output = is;
    }

-- The same of the netlist's parts as a call sees them: `seen` is what its fields show when the call begins.
module _ (old seen : Netlist) (view : seen ≡ old) (well : IsWellMade seen) where
  pub pushed_node : (op : Op) (nodes : List Node) → nodes ≡ seen.nodes ++ one_bit op ∷ [] →
      IsOpAt old (length old.nodes) op → IsWellMade (record seen { nodes = nodes })
  pushed_node op nodes e at =
      subst (λ (ns : List Node). IsWellMade (record seen { nodes = ns })) (sym e)
      (made_node seen op well (subst (λ (m : Netlist). IsOpAt m (length m.nodes) op) (sym view) at))

  pub pushed_register : (width initial : ℕ) (registers : List Register) →
      registers ≡ seen.registers ++ opened width initial ∷ [] → width ≡ 1 → initial < 2 ^ width →
      IsWellMade (record seen { registers = registers })
  pushed_register width initial registers e one fits =
      subst (λ (rs : List Register). IsWellMade (record seen { registers = rs })) (sym e)
      (made_register seen width initial well one fits)

  pub output_set : (out : ℕ) → IsNet old out → IsWellMade (record seen { output = Some out })
  output_set out is = made_output seen out well (subst (λ (m : Netlist). IsNet m out) (sym view) is)
