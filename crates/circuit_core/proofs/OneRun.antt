-- A finished netlist has one run over inputs.
use Rattle.std.specs.Prelude.{ℕ, zero, suc, ◌≡◌, ◌<◌, Option, Some, None, IfSome, IsSomeAnd, length}
use Rattle.std.specs.Prelude.{slice_get}
use Rattle.std.proofs.Common.{refl, sym, ap, ◌∙◌, arith}
use Rattle.std.proofs.lemmas.Option.{slice_get_within}
use Rattle.circuit_core.specs.Netlist.{Op, bit, eot, guard, not, and, or, register, one_bit, Node, Netlist}
use Rattle.circuit_core.specs.Netlist.{IsNet, IsNetOf}
use Rattle.circuit_core.specs.Run.{Run, Inputs, flipped, both, either, Equation, IsRunOf}
use Rattle.circuit_core.specs.WellMade.{IsOpAt, IsFinished}
use Rattle.circuit_core.proofs.Lists.{there}

-- the registers' nets have the same value in a cycle
abbrev pub HoldsSame : Netlist → Run → Run → ℕ → Type 0
HoldsSame m first second n = (k r : ℕ) → IsNetOf m r k → first k n ≡ second k n

-- a net has the same value in a cycle in which the registers' nets have
module _ (m : Netlist) (inputs : Inputs) (first second : Run) (done : IsFinished m) (f : IsRunOf m inputs first)
    (s : IsRunOf m inputs second) (n : ℕ) (within : n < length inputs.trace) (held : HoldsSame m first second n) where
  by_op : (k : ℕ) (op : Op) → ((a : ℕ) → a < k → first a n ≡ second a n) → Equation m inputs first (first k) op →
      Equation m inputs second (second k) op → IsOpAt m k op → ((r : ℕ) → op ≡ register r → first k n ≡ second k n) →
      first k n ≡ second k n
  by_op k (bit b) earlier fe se early reg = fe n within ∙ sym (se n within)
  by_op k eot earlier fe se early reg = fe n within ∙ sym (se n within)
  by_op k (guard e) earlier fe se early reg =
      let values = there inputs.trace n within in
      fe n values.0 values.1 ∙ sym (se n values.0 values.1)
  by_op k (not a) earlier fe se early reg = fe n within ∙ ap (λ v. flipped v) (earlier a early) ∙ sym (se n within)
  by_op k (and a b) earlier fe se early reg =
      fe n within
      ∙ ap (λ v. both v (first b n)) (earlier a early.0)
      ∙ ap (λ v. both (second a n) v) (earlier b early.1)
      ∙ sym (se n within)
  by_op k (or a b) earlier fe se early reg =
      fe n within
      ∙ ap (λ v. either v (first b n)) (earlier a early.0)
      ∙ ap (λ v. either (second a n) v) (earlier b early.1)
      ∙ sym (se n within)
  by_op k (register r) earlier fe se early reg = reg r refl

  node_is : (k : ℕ) (node : Node) → slice_get m.nodes k ≡ Some node → (r : ℕ) → node.op ≡ register r →
      node ≡ one_bit (register r)
  node_is k node at r is =
      let width : node.width ≡ 1 = (done.well_made.nodes k node at).width in
      λ i. record { width = width i; op = is i }

  -- by the number of nets that may be named
  pub net_same : (bound k : ℕ) → k < bound → (node : Node) → slice_get m.nodes k ≡ Some node → first k n ≡ second k n
  net_same zero k below node at = absurd (omega arith)
  net_same (suc bound) k below node at =
      let here : k < length m.nodes = slice_get_within m.nodes k node at in
      by_op k node.op
      (λ a early. let x = there m.nodes a (omega arith) in net_same bound a (omega arith) x.0 x.1)
      (f.nets k node at) (s.nets k node at) (done.well_made.nodes k node at).op
      (λ r is. held k r (at ∙ ap (λ (x : Node). Some x) (node_is k node at r is)))

-- a register's net goes on alike where its next has the same value
goes_on_same : (inputs : Inputs) (first second : Run) (k n bound : ℕ) (next : Option ℕ) → suc n < length inputs.trace →
    IsSomeAnd next (λ j. j < bound) → ((j : ℕ) → j < bound → first j n ≡ second j n)
    → IfSome next (λ j. (n : ℕ) → suc n < length inputs.trace → first k (suc n) ≡ first j n)
    → IfSome next (λ j. (n : ℕ) → suc n < length inputs.trace → second k (suc n) ≡ second j n)
    → first k (suc n) ≡ second k (suc n)
goes_on_same inputs first second k n bound None within is before f s = absurd is
goes_on_same inputs first second k n bound (Some j) within is before f s = f n within ∙ before j is ∙ sym (s n within)

module _ (m : Netlist) (inputs : Inputs) (first second : Run) (done : IsFinished m) (f : IsRunOf m inputs first)
    (s : IsRunOf m inputs second) where
  held_same : (n : ℕ) → n < length inputs.trace → HoldsSame m first second n
  held_same zero within k r at =
      let x = there m.registers r (done.well_made.nodes k (one_bit (register r)) at).op in
      (f.nets k (one_bit (register r)) at x.0 x.1).begins within
      ∙ sym ((s.nets k (one_bit (register r)) at x.0 x.1).begins within)
  held_same (suc n) within k r at =
      let x = there m.registers r (done.well_made.nodes k (one_bit (register r)) at).op in
      let before : n < length inputs.trace = omega arith in
      goes_on_same inputs first second k n (length m.nodes) x.0.next within (done.nexts r x.0 x.1)
      (λ j is. let y = there m.nodes j is in
      net_same m inputs first second done f s n before (held_same n before) (suc j) j (omega arith) y.0 y.1)
      ((f.nets k (one_bit (register r)) at x.0 x.1).goes_on) ((s.nets k (one_bit (register r)) at x.0 x.1).goes_on)

  pub same_runs : (n : ℕ) → n < length inputs.trace → (k : ℕ) → IsNet m k → first k n ≡ second k n
  same_runs n within k is =
      let x = there m.nodes k is in
      net_same m inputs first second done f s n within (held_same n within) (suc k) k (omega arith) x.0 x.1
