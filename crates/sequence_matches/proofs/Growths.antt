-- How growths join of which only the most is told.
use Rattle.std.specs.Prelude.{ℕ, ◌≡◌, ◌⊎◌, ◌<◌, ◌≤◌, ◌+◌, Some, IsSome, length, slice_get}
use Rattle.std.proofs.Common.{sym, ◌∙◌, subst, arith, inl, inr, get_or}
use Rattle.std.proofs.lemmas.Bool.{cases_lt}
use Rattle.std.proofs.lemmas.Option.{same_Some, slice_get-get_or}
use Rattle.circuit_core.specs.Netlist.{Register, Netlist}
use Rattle.circuit_core.specs.Growth.{Extends}
use Rattle.sequence_matches.specs.Growth.{GrowsWithin}

pub extends_trans : (a b c : Netlist) → Extends a b → Extends b c → Extends a c
extends_trans a b c x y = record {
  widths = y.widths ∙ x.widths;
  nodes = λ k node h. y.nodes k node (x.nodes k node h);
  more_nodes = omega (arith, x.more_nodes, y.more_nodes);
  registers = λ r z h. y.registers r z (x.registers r z h);
  more_registers = omega (arith, x.more_registers, y.more_registers);
  output = y.output ∙ x.output;
  runs = λ inputs run h. x.runs inputs run (y.runs inputs run h);
}

pub within_twice : (a b c : Netlist) (m n : ℕ) → GrowsWithin a b m → GrowsWithin b c n → GrowsWithin a c (m + n)
within_twice a b c m n x y = record {
  kept = extends_trans a b c x.kept y.kept;
  count = omega (arith, x.count, y.count);
  nexts = λ r z past at. each r z past at (cases_lt r (length b.registers));
}
  where
    each : (r : ℕ) (z : Register) → length a.registers ≤ r → slice_get c.registers r ≡ Some z →
        (r < length b.registers) ⊎ (length b.registers ≤ r) → IsSome z.next
    each r z past at (inr late) = y.nexts r z late at
    each r z past at (inl early) =
        let w = get_or b.registers r z in
        let is : slice_get b.registers r ≡ Some w = slice_get-get_or b.registers r z early in
        let same : w ≡ z = same_Some w z (sym (y.kept.registers r w is) ∙ at) in
        subst (λ (v : Register). IsSome v.next) same (x.nexts r w past is)
