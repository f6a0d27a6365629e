-- From a call that puts a node or a register at the end to what the public calls say.
use Rattle.std.specs.Prelude.{ℕ, ◌≡◌, ◌++◌, [], ◌∷◌, Result, Ok, Err, Some, IfOk, OnErr, length, slice_get}
use Rattle.circuit_core.specs.Netlist.{Node, Register, Netlist}
use Rattle.circuit_core.specs.Growth.{Extends}
use Rattle.circuit_core.proofs.Growth.{extends_node_at, extends_register_at, extends_same, node_there, register_there}

-- `of` gives the number in what the call answers
module _ {X E : Type 0} (of : X → ℕ) (old new : Netlist) where
  pub node_kept : (node : Node) (r : Result X E) →
      IfOk r (λ k. (of k ≡ length old.nodes) × (new ≡ record old { nodes = old.nodes ++ node ∷ [] })) →
      OnErr r (new ≡ old) → Extends old new
  node_kept node (Ok k) ok err = extends_node_at old new node ok.1
  node_kept node (Err e) ok err = extends_same old new err

  pub node_at : (node : Node) (r : Result X E) →
      IfOk r (λ k. (of k ≡ length old.nodes) × (new ≡ record old { nodes = old.nodes ++ node ∷ [] })) →
      IfOk r (λ k. slice_get new.nodes (of k) ≡ Some node)
  node_at node (Ok k) ok = node_there old new node (of k) ok.0 ok.1
  node_at node (Err e) ok = tt

  pub register_kept : (x : Register) (r : Result X E) →
      IfOk r (λ k. (of k ≡ length old.registers) × (new ≡ record old { registers = old.registers ++ x ∷ [] })) →
      OnErr r (new ≡ old) → Extends old new
  register_kept x (Ok k) ok err = extends_register_at old new x ok.1
  register_kept x (Err e) ok err = extends_same old new err

  pub register_at : (x : Register) (r : Result X E) →
      IfOk r (λ k. (of k ≡ length old.registers) × (new ≡ record old { registers = old.registers ++ x ∷ [] })) →
      IfOk r (λ k. slice_get new.registers (of k) ≡ Some x)
  register_at x (Ok k) ok = register_there old new x (of k) ok.0 ok.1
  register_at x (Err e) ok = tt
