-- States whose registers are made one after the other, and then set one after the other.
use Rattle.std.proofs.Common.{◌≡◌, ◌≢◌, ℕ, zero, suc, ◌+◌, ◌<◌, ◌≤◌, eqb, IsTrue, List, [], ◌∷◌, ◌++◌, length, get_or}
use Rattle.std.proofs.Common.{slice_get, Some, IsSome, All, inl, inr, ◌⊎◌, refl, sym, ap, ◌∙◌, subst}
use Rattle.std.proofs.Common.{arith}
use Rattle.std.proofs.lemmas.Bool.{cases_lt}
use Rattle.std.proofs.lemmas.Bool.Decides.{Decides-eqb}
use Rattle.std.proofs.lemmas.Option.{slice_get_within, slice_get-get_or, same_Some}
use Rattle.circuit_core.specs.Netlist.{Netlist, Register, IsNet, IsNetOf}
use Rattle.circuit_core.specs.Run.{InEachCycle}
use Rattle.circuit_core.specs.Growth.{Extends, IsSet, HasNoNext, HaveNexts, Grows, opened, closed}
use Rattle.sequence_circuits.specs.declared.states.State.{State}
use Rattle.sequence_circuits.specs.inner.Nets.{IsLive, IsState, AreStates, AreSet}
use Rattle.sequence_circuits.proofs.Nets.{get_push}

-- ---- made

state_kept : (old new : Netlist) (base start uncleared s : ℕ) (h : State) → Extends old new
    → IsState old base start uncleared s h → IsState new base start uncleared s h
state_kept old new base start uncleared s h x is = record {
  place = is.place;
  net = x.nodes h.held.0 _ is.net;
  unset = x.registers (base + s) _ is.unset;
  live_net = omega (arith, is.live_net, x.more_nodes);
  live = λ inputs run r n within. is.live inputs run (x.runs inputs run r) n within;
}

are_kept : (old new : Netlist) (base start uncleared : ℕ) (states : List State) → Extends old new
    → AreStates old base start uncleared states → AreStates new base start uncleared states
are_kept old new base start uncleared states x are s h at =
    state_kept old new base start uncleared s h x (are s h at)

-- the same where the code hands the list on as a slice
pub are_kept_in : (old new : Netlist) (base start uncleared : ℕ) (states slice : List State) → slice ≡ states
    → Extends old new → AreStates old base start uncleared states → AreStates new base start uncleared slice
are_kept_in old new base start uncleared states slice is x are =
    subst (AreStates new base start uncleared) (sym is) (are_kept old new base start uncleared states x are)

pub states_push : (old new : Netlist) (base start uncleared place : ℕ) (states : List State) (h : State)
    → AreStates old base start uncleared states → Extends old new → length old.registers ≡ base + place
    → length states ≡ place → h.register.0 ≡ length old.registers → IsNetOf new h.register.0 h.held.0
    → slice_get new.registers h.register.0 ≡ Some (opened 1 0) → IsNet new h.live.0
    → InEachCycle new (λ run n.
    IsLive (IsTrue (eqb place 0)) (run h.held.0) (run start) (run uncleared) (run h.live.0) n)
    → AreStates new base start uncleared (states ++ h ∷ [])
states_push old new base start uncleared place states h are x count size number net unset live_net live s g at =
    elim (get_push states h g s at) [
      | inl before ↦ state_kept old new base start uncleared s g x (are s g before)
      | inr last ↦ (let here : s ≡ place = omega (arith, last.0, size) in
          let is : h.register.0 ≡ base + s = omega (arith, number, count, here) in
          subst (λ (k : State). IsState new base start uncleared s k) last.1 (record {
            place = is;
            net = subst (λ (r : ℕ). IsNetOf new r h.held.0) is net;
            unset = subst (λ (r : ℕ). slice_get new.registers r ≡ Some (opened 1 0)) is unset;
            live_net = live_net;
            live = λ inputs run r n within. let old = live inputs run r n within in (
              (λ on. let p = old.0 on in (
                elim p.0 [ inl y ↦ inl y | inr y ↦ inr (here ∙ (Decides-eqb place 0).0 y.0, y.1) ],
                p.1,
              )),
              (λ p. old.1 (
                elim p.0 [ inl y ↦ inl y | inr y ↦ inr ((Decides-eqb place 0).1 (sym here ∙ y.0), y.1) ],
                p.1,
              )),
            );
          }))
    ]

pub live_all : (m : Netlist) (base start uncleared : ℕ) (states : List State)
    → AreStates m base start uncleared states → All (λ h. IsNet m h.live.0) states
live_all m base start uncleared states are k d lt =
    (are k (get_or states k d) (slice_get-get_or states k d lt)).live_net

-- ---- set

pub set_none : (m : Netlist) (base : ℕ) (nexts : List ℕ) → AreSet m base 0 nexts m
set_none m base nexts = record {
  widths = refl;
  nodes = refl;
  others = λ q x outside at. at;
  sets = λ s lt. absurd (omega arith);
  size = refl;
  output = refl;
  runs = λ inputs run h. h;
}

pub next_open : (m0 m : Netlist) (base start uncleared : ℕ) (states : List State) (nexts : List ℕ) (place : ℕ)
    (h : State)
    → AreStates m0 base start uncleared states → slice_get states place ≡ Some h → AreSet m0 base place nexts m
    → HasNoNext m h.register.0
next_open m0 m base start uncleared states nexts place h are at so_far =
    let is = are place h at in (
      1,
      0,
      subst (λ (r : ℕ). slice_get m.registers r ≡ Some (opened 1 0)) (sym is.place)
          (so_far.others (base + place) _ (inr (omega arith)) is.unset),
    )

pub next_set : (m0 m new : Netlist) (base start uncleared : ℕ) (states : List State) (nexts : List ℕ) (place : ℕ)
    (h : State) (next : ℕ) → AreStates m0 base start uncleared states → slice_get states place ≡ Some h
    → AreSet m0 base place nexts m → next ≡ get_or nexts place 0 → IsSet m h.register.0 next new
    → AreSet m0 base (place + 1) nexts new
next_set m0 m new base start uncleared states nexts place h next are at so_far which set = record {
  widths = set.widths ∙ so_far.widths;
  nodes = set.nodes ∙ so_far.nodes;
  others = λ q x outside there. set.others q x (apart q outside) (so_far.others q x (shorter q outside) there);
  sets = λ s lt. elim (cases_lt s place) [
    | inl early ↦ set.others (base + s) _ (λ e. omega (arith, e, is.place)) (so_far.sets s early)
    | inr late ↦ (let here : s ≡ place = omega arith in
        let now : slice_get new.registers (base + place) ≡ Some (closed 1 0 next) =
        subst (λ (r : ℕ). slice_get new.registers r ≡ Some (closed 1 0 next)) is.place (set.sets 1 0 unset) in
        subst (λ (t : ℕ). slice_get new.registers (base + t) ≡ Some (closed 1 0 (get_or nexts t 0))) (sym here)
        (subst (λ (k : ℕ). slice_get new.registers (base + place) ≡ Some (closed 1 0 k)) which now))
  ];
  size = set.count ∙ so_far.size;
  output = set.output ∙ so_far.output;
  runs = λ inputs run r. so_far.runs inputs run (set.runs inputs run r);
}
  where
    is : IsState m0 base start uncleared place h
    is = are place h at

    unset : slice_get m.registers h.register.0 ≡ Some (opened 1 0)
    unset = subst (λ (r : ℕ). slice_get m.registers r ≡ Some (opened 1 0)) (sym is.place)
        (so_far.others (base + place) _ (inr (omega arith)) is.unset)

    apart : (q : ℕ) → (q < base) ⊎ (base + (place + 1) ≤ q) → q ≢ h.register.0
    apart q (inl y) e = omega (arith, is.place)
    apart q (inr y) e = omega (arith, is.place)

    shorter : (q : ℕ) → (q < base) ⊎ (base + (place + 1) ≤ q) → (q < base) ⊎ (base + place ≤ q)
    shorter q (inl y) = inl y
    shorter q (inr y) = inr (omega arith)

-- the old netlist is kept where registers are set that came after it
pub extends_set : (m0 m4 m5 : Netlist) (base count : ℕ) (nexts : List ℕ) → Extends m0 m4 → length m0.registers ≤ base
    → AreSet m4 base count nexts m5 → Extends m0 m5
extends_set m0 m4 m5 base count nexts x later are = record {
  widths = are.widths ∙ x.widths;
  nodes = λ k op at. ap (λ nodes. slice_get nodes k) are.nodes ∙ x.nodes k op at;
  more_nodes = omega (arith, ap (λ nodes. length nodes) are.nodes, x.more_nodes);
  registers = λ r y at. let inside : r < length m0.registers = slice_get_within m0.registers r y at in
      are.others r y (inl (omega arith)) (x.registers r y at);
  more_registers = omega (arith, are.size, x.more_registers);
  output = are.output ∙ x.output;
  runs = λ inputs run h. x.runs inputs run (are.runs inputs run h);
}

-- all registers from `base` on are set
have_nexts : (m4 m5 : Netlist) (base count : ℕ) (nexts : List ℕ) → AreSet m4 base count nexts m5
    → length m4.registers ≡ base + count → HaveNexts m5 base
have_nexts m4 m5 base count nexts are size r x from at =
    let inside : r < length m5.registers = slice_get_within m5.registers r x at in
    let s : (t : ℕ) × (r ≡ base + t) × (t < count) = place base r count from (omega (arith, are.size)) in
    let next : ℕ = get_or nexts s.0 0 in
    let set : slice_get m5.registers r ≡ Some (closed 1 0 next) =
    ap (λ (q : ℕ). slice_get m5.registers q) s.1 ∙ are.sets s.0 s.2 in
    subst (λ (z : Register). IsSome z.next) (same_Some (closed 1 0 next) x (sym set ∙ at)) (refl_some next)
  where
    refl_some : (k : ℕ) → IsSome (Some k)
    refl_some k = refl

    place : (base r count : ℕ) → base ≤ r → r < base + count → (t : ℕ) × (r ≡ base + t) × (t < count)
    place zero r count from to = (r, omega arith, omega arith)
    place (suc base) zero count from to = absurd (omega arith)
    place (suc base) (suc r) count from to =
        let p = place base r count (omega arith) (omega arith) in (p.0, omega (arith, p.1), p.2)

pub grows_set : (m0 m4 m5 : Netlist) (count : ℕ) (nexts : List ℕ) → Extends m0 m4
    → length m4.registers ≡ length m0.registers + count → AreSet m4 (length m0.registers) count nexts m5
    → Grows m0 m5 count
grows_set m0 m4 m5 count nexts x size are = record {
  kept = extends_set m0 m4 m5 (length m0.registers) count nexts x (omega arith) are;
  count = are.size ∙ size;
  nexts = have_nexts m4 m5 (length m0.registers) count nexts are size;
}
