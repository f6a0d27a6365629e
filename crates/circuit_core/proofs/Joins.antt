-- How extensions join.
use Rattle.std.specs.Prelude.{ℕ, ◌≡◌, ◌≢◌, ◌⊎◌, ◌<◌, ◌≤◌, ◌+◌, List, Some, IsSome, length, slice_get}
use Rattle.std.proofs.Common.{sym, ap, ◌∙◌, subst, arith, inl, inr}
use Rattle.std.proofs.lemmas.Bool.{cases_lt}
use Rattle.std.proofs.lemmas.Option.{same_Some, slice_get_within}
use Rattle.circuit_core.specs.Netlist.{Register, Netlist}
use Rattle.circuit_core.specs.Growth.{Extends, IsSet, Grows}
use Rattle.circuit_core.proofs.Lists.{there}
use Rattle.circuit_core.proofs.Growth.{extends_self}

pub extends_trans : (a b c : Netlist) → Extends a b → Extends b c → Extends a c
extends_trans a b c x y = record {
  widths = y.widths ∙ x.widths;
  nodes = λ k node h. y.nodes k node (x.nodes k node h);
  more_nodes = omega (arith, x.more_nodes, y.more_nodes);
  registers = λ r z h. y.registers r z (x.registers r z h);
  more_registers = omega (arith, x.more_registers, y.more_registers);
  output = y.output ∙ x.output;
  runs = λ inputs run h. x.runs inputs run (y.runs inputs run h);
}

-- the old netlist is kept where a register is set that came after it
pub extends_set : (a b c : Netlist) (q next : ℕ) → Extends a b → length a.registers ≤ q → IsSet b q next c → Extends a c
extends_set a b c q next x later set = record {
  widths = set.widths ∙ x.widths;
  nodes = λ k node at. ap (λ nodes. slice_get nodes k) set.nodes ∙ x.nodes k node at;
  more_nodes = omega (arith, ap (λ nodes. length nodes) set.nodes, x.more_nodes);
  registers = λ r y at. set.others r y (apart a.registers r y q at later) (x.registers r y at);
  more_registers = omega (arith, set.count, x.more_registers);
  output = set.output ∙ x.output;
  runs = λ inputs run h. x.runs inputs run (set.runs inputs run h);
}
  where
    apart : (xs : List Register) (r : ℕ) (y : Register) (q : ℕ) → slice_get xs r ≡ Some y → length xs ≤ q → r ≢ q
    apart xs r y q at later = λ e. let h : r < length xs = slice_get_within xs r y at in omega arith

pub grows_none : (m : Netlist) → Grows m m 0
grows_none m = record {
  kept = extends_self m;
  count = omega arith;
  nexts = λ r x past at. let h : r < length m.registers = slice_get_within m.registers r x at in absurd (omega arith);
}

pub grows_twice : (a b c : Netlist) (m n : ℕ) → Grows a b m → Grows b c n → Grows a c (m + n)
grows_twice a b c m n x y = record {
  kept = extends_trans a b c x.kept y.kept;
  count = omega (arith, x.count, y.count);
  nexts = λ r z past at. each r z past at (cases_lt r (length b.registers));
}
  where
    each : (r : ℕ) (z : Register) → length a.registers ≤ r → slice_get c.registers r ≡ Some z →
        (r < length b.registers) ⊎ (length b.registers ≤ r) → IsSome z.next
    each r z past at (inr late) = y.nexts r z late at
    each r z past at (inl early) =
        let w = there b.registers r early in
        let same : w.0 ≡ z = same_Some w.0 z (sym (y.kept.registers r w.0 w.1) ∙ at) in
        subst (λ (v : Register). IsSome v.next) same (x.nexts r w.0 past w.1)
