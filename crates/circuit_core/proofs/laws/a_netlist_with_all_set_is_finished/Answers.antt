use Rattle.std.specs.Prelude.{ℕ, Option, Some, None, IsSome, IfSome, IsSomeAnd}
use Rattle.std.proofs.Common.{arith}
use Rattle.circuit_core.specs.Netlist.{Netlist, IsNet}
use Rattle.circuit_core.proofs.laws.a_netlist_with_all_set_is_finished.Goals as goal

is_net : (m : Netlist) (o : Option ℕ) → IfSome o (IsNet m) → IsSome o → IsSomeAnd o (IsNet m)
is_net m None net set = absurd (cc)
is_net m (Some k) net set = net

pub returns : goal.returns
returns c m made nexts set = record {
  well_made = made;
  nexts = λ r x at. is_net m x.next (made.registers r x at).next (nexts r x (omega arith) at);
  output = is_net m m.output made.output set;
}
