-- Netlists that grow by a register that is set, and the bits of registers.
use Rattle.std.specs.Prelude.{ℕ, suc, ◌≡◌, ◌<◌, ◌+◌, ◌++◌, List, [], ◌∷◌, Some, IsSome, length, map, fold, slice_get}
use Rattle.std.proofs.Common.{refl, sym, ap, ◌∙◌, subst, arith, length-append}
use Rattle.std.proofs.lemmas.Option.{slice_get_within, same_Some}
use Rattle.circuit_core.specs.Netlist.{Register, Netlist}
use Rattle.circuit_core.specs.Growth.{Extends, IsSet, Grows, opened, closed}
use Rattle.circuit_core.specs.WellMade.{IsWellMade}
use Rattle.strong_obligations.specs.Bits.{register_bits}

-- with one that is made, and set when nets have been put
pub grows_set : (a b c : Netlist) (r width initial next : ℕ) → Extends a c → r ≡ length a.registers →
    b.registers ≡ a.registers ++ opened width initial ∷ [] →
    slice_get b.registers r ≡ Some (opened width initial) → IsSet b r next c → Grows a c 1
grows_set a b c r width initial next x number one there set = record {
  kept = x;
  count = omega (arith, size);
  nexts = λ q y past at.
      let inside : q < length c.registers = slice_get_within c.registers q y at in
      let is : q ≡ r = omega (arith, size) in
      let now : slice_get c.registers q ≡ Some (closed width initial next) =
      ap (λ (k : ℕ). slice_get c.registers k) is ∙ set.sets width initial there in
      let same : closed width initial next ≡ y = same_Some (closed width initial next) y (sym now ∙ at) in
      subst (λ (z : Register). IsSome z.next) same refl_some;
}
  where
    size : length c.registers ≡ length a.registers + 1
    size = set.count ∙ ap (λ rs. length rs) one ∙ length-append a.registers (opened width initial ∷ [])

    refl_some : IsSome (Some next)
    refl_some = refl

-- with nodes alone after a growth
pub grows_on : (a b c : Netlist) (more : ℕ) → Grows a b more → Extends a c → c.registers ≡ b.registers → Grows a c more
grows_on a b c more grows x same = record {
  kept = x;
  count = omega (arith, grows.count, ap (λ rs. length rs) same);
  nexts = λ r y past at. grows.nexts r y past (ap (λ rs. slice_get rs r) (sym same) ∙ at);
}

bits_from : (rs : List Register) → ((r : ℕ) (x : Register) → slice_get rs r ≡ Some x → x.width ≡ 1) → (from : ℕ) →
    fold ◌+◌ from (map (λ (x : Register). x.width) rs) ≡ from + length rs
bits_from [] each from = omega arith
bits_from (x ∷ rs) each from =
    let one : x.width ≡ 1 = each 0 x refl in
    let counted : length (x ∷ rs) ≡ suc (length rs) = refl in
    bits_from rs (λ r y at. each (suc r) y at) (from + x.width) ∙ omega (arith, one, counted)

pub bits_are : (m : Netlist) → IsWellMade m → register_bits m ≡ length m.registers
bits_are m well = bits_from m.registers (λ r x at. (well.registers r x at).width) 0 ∙ omega arith
