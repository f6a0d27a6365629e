-- Netlists that grow by registers that are set.
use Rattle.std.specs.Prelude.{ℕ, zero, suc, ◌≡◌, ◌↔◌, ◌<◌, ◌≤◌, [], Option, Some, None, IsSome}
use Rattle.std.specs.Prelude.{IfSome, IsSomeAnd, length}
use Rattle.std.proofs.Common.{refl, sym, ap, ◌∙◌, subst, arith}
use Rattle.std.proofs.lemmas.Option.{slice_get_within}
use Rattle.circuit_core.specs.Netlist.{Netlist, IsNet, IsNetOf}
use Rattle.circuit_core.specs.Run.{On, InEachRun, InEachCycle}
use Rattle.circuit_core.specs.Growth.{Extends, IsSet, HaveNexts}
use Rattle.circuit_core.specs.WellMade.{IsWellMade, IsFinished}
use Rattle.sequence_matches.specs.Growth.{GrowsWithin}

-- with the same registers
pub within_same : (a b : Netlist) → Extends a b → b.registers ≡ a.registers → GrowsWithin a b 0
within_same a b x same = record {
  kept = x;
  count = omega (arith, ap (λ rs. length rs) same);
  nexts = λ r y past at.
      let inside : r < length b.registers = slice_get_within b.registers r y at in
      absurd (omega (arith, ap (λ rs. length rs) same));
}

-- ---- the net of a register that holds 1 in the first cycle alone

pub first_circuit : (m1 m2 m3 : Netlist) (r first never : ℕ) → IsNetOf m1 r first →
    InEachRun m1 (λ inputs run. 0 < length inputs.trace → run first 0 ≡ 1) → Extends m1 m2 →
    InEachCycle m2 (λ run n. run never n ≡ 0) → IsSet m2 r never m3 → InEachCycle m3 (λ run n. On (run first) n ↔ n ≡ 0)
first_circuit m1 m2 m3 r first never of begins x12 nevers set inputs run r3 zero within =
    let one = begins inputs run (x12.runs inputs run (set.runs inputs run r3)) within in
    ((λ on. refl), (λ e off. omega (arith, one, off)))
first_circuit m1 m2 m3 r first never of begins x12 nevers set inputs run r3 (suc n) within =
    let r2 = set.runs inputs run r3 in
    let off : run first (suc n) ≡ 0 =
    set.follows first (x12.nodes first _ of) inputs run r3 n within ∙ nevers inputs run r2 n (omega arith) in
    ((λ on. absurd (on off)), (λ e. absurd (omega arith)))

-- ---- a netlist that is done

some_and : (m : Netlist) (o : Option ℕ) → IsSome o → IfSome o (IsNet m) → IsSomeAnd o (IsNet m)
some_and m None some net = absurd (cc (some))
some_and m (Some k) some net = net

pub finished : (m : Netlist) (out : ℕ) → IsWellMade m → HaveNexts m 0 → m.output ≡ Some out → IsFinished m
finished m out well nexts is = record {
  well_made = well;
  nexts = λ r x at. some_and m x.next (nexts r x (omega arith) at) (well.registers r x at).next;
  output = some_and m m.output (subst (λ (o : Option ℕ). IsSome o) (sym is) refl) well.output;
}

-- a netlist that began without registers and was given its output
pub done : (m0 m3 m4 : Netlist) (more out : ℕ) → m0.registers ≡ [] → GrowsWithin m0 m3 more →
    m4 ≡ record m3 { output = Some out } → HaveNexts m4 0 × (length m4.registers ≤ more)
done m0 m3 m4 more out empty grows is =
    let nothing : length m0.registers ≡ 0 = ap (λ rs. length rs) empty in
    let P : Netlist → Type 0 = λ m. HaveNexts m 0 × (length m.registers ≤ more) in
    subst P (sym is)
    ((λ r x past at. grows.nexts r x (omega (arith, nothing)) at), omega (arith, grows.count, nothing))
