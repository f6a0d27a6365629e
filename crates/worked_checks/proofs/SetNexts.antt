-- A netlist whose registers are all seen to have a next net has them.
use Rattle.std.proofs.Common.{◌≡◌, ℕ, zero, suc, List, [], ◌∷◌, map, ap, ◌∙◌, subst, refl, arith, Some, None}
use Rattle.std.specs.Prelude.{All, IsSome, Option, slice_get}
use Rattle.circuit_core.specs.Netlist.{Netlist, Register}
use Rattle.circuit_core.specs.View.{register_of, net_of}
use Rattle.circuit_core.specs.Growth.{HaveNexts}
use Rattle.circuit_core.specs.declared.nodes.Net.{Net}
use Rattle.circuit_core.specs.declared.nodes.NetReg.{NetReg}

some_net : (o : Option Net) → IsSome o → IsSome (net_of o)
some_net None set = absurd (cc)
some_net (Some k) set = refl

set_at : (regs : List NetReg) → All (λ (reg : NetReg). IsSome reg.next) regs → (r : ℕ) (x : Register) →
    slice_get (map register_of regs) r ≡ Some x → IsSome x.next
set_at [] all r x at = absurd (cc)
set_at (reg ∷ regs) all zero x at =
    let same : register_of reg ≡ x = cc in
    subst (λ (y : Register). IsSome y.next) same (some_net reg.next (all 0 reg (omega arith)))
set_at (reg ∷ regs) all (suc r) x at = set_at regs (λ j d lt. all (suc j) d (omega arith)) r x at

pub nexts : (m : Netlist) (regs : List NetReg) → map register_of regs ≡ m.registers →
    All (λ (reg : NetReg). IsSome reg.next) regs → HaveNexts m 0
nexts m regs same all = λ r x past at. set_at regs all r x (ap (λ (xs : List Register). slice_get xs r) same ∙ at)
