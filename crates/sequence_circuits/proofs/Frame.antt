-- The circuit of one register a state as a whole: its nets in m4, its nexts in m5.
use Rattle.std.proofs.Common.{◌≡◌, ℕ, suc, ◌+◌, ◌<◌, ◌≤◌, List, length, map, get_or, slice_get, Some, ◌⊎◌, ◌↔◌, ap, ◌∙◌}
use Rattle.std.proofs.Common.{sym, subst}
use Rattle.std.proofs.lemmas.Option.{slice_get-get_or}
use Rattle.std.proofs.lemmas.List.{get_or-map}
use Rattle.circuit_core.specs.Netlist.{Netlist, IsNetOf}
use Rattle.circuit_core.specs.Run.{Run, On, InEachRun, InEachCycle}
use Rattle.circuit_core.specs.Growth.{closed}
use Rattle.sequence_circuits.specs.declared.states.State.{State}
use Rattle.sequence_circuits.specs.inner.Nets.{live_nets, stream_at, IsState, AreStates, AreSet}
use Rattle.sequence_circuits.proofs.OneHot.{IsOneHot, Comes, one_hot}

no_state : State
no_state = record { register = record { 0 = 0 }; held = record { 0 = 0 }; live = record { 0 = 0 } }

-- the nets of the registers
abbrev pub held_nets : List State → List ℕ
held_nets states = map (λ h. h.held.0) states

-- the state at a place, and the numbers of its nets
at : (states : List State) (s : ℕ) → s < length states
    → (h : State) × (slice_get states s ≡ Some h) × (get_or (held_nets states) s 0 ≡ h.held.0)
    × (get_or (live_nets states) s 0 ≡ h.live.0)
at states s lt = (
  get_or states s no_state,
  slice_get-get_or states s no_state lt,
  get_or-map (λ (h : State). h.held.0) states s no_state 0 lt,
  get_or-map (λ (h : State). h.live.0) states s no_state 0 lt,
)

-- a register begins with 0
held_begins : (m : Netlist) (base start uncleared s : ℕ) (h : State) → IsState m base start uncleared s h
    → InEachRun m (λ inputs run. 0 < length inputs.trace → run h.held.0 0 ≡ 0)
held_begins m base start uncleared s h is inputs run r = (r.nets h.held.0 _ is.net _ is.unset).begins

-- and then has what its next had before
held_goes_on : (m4 m5 : Netlist) (base count start uncleared s : ℕ) (h : State) (nexts : List ℕ)
    → IsState m4 base start uncleared s h → AreSet m4 base count nexts m5 → s < count
    → InEachRun m5
    (λ inputs run. (n : ℕ) → suc n < length inputs.trace → run h.held.0 (suc n) ≡ run (get_or nexts s 0) n)
held_goes_on m4 m5 base count start uncleared s h nexts is are lt inputs run r =
    let there : IsNetOf m5 (base + s) h.held.0 = ap (λ nodes. slice_get nodes h.held.0) are.nodes ∙ is.net in
    (r.nets h.held.0 _ there (closed 1 0 (get_or nexts s 0)) (are.sets s lt)).goes_on

framed : (m4 m5 : Netlist) (base start clear uncleared places : ℕ) (states : List State) (arrivals : List ℕ)
    (Steps : Run → (s t n : ℕ) → Type 0) → AreStates m4 base start uncleared states
    → AreSet m4 base (length states) arrivals m5
    → InEachCycle m4 (λ run n. On (run uncleared) n ↔ ¬ On (run clear) n)
    → InEachCycle m4 (λ run n. (t : ℕ) → t < places → On (stream_at run arrivals t) n
    ↔ ((s : ℕ) × (s < length states) × (On (stream_at run (live_nets states) s) n × Steps run s t n)))
    → InEachRun m5 (λ inputs run. IsOneHot (length states) places (length inputs.trace) (Steps run) (run start)
    (run clear) (stream_at run (held_nets states)) (stream_at run (live_nets states)) (stream_at run arrivals))
framed m4 m5 base start clear uncleared places states arrivals Steps are set opposite arrive inputs run r5 =
    let r4 = set.runs inputs run r5 in
    record {
      begins = λ s below some. let h = at states s below in
          ap (λ (k : ℕ). run k 0) h.2
          ∙ held_begins m4 base start uncleared s h.0 (are s h.0 h.1) inputs run r4 some;
      goes_on = λ s n below within. let h = at states s below in
          ap (λ (k : ℕ). run k (suc n)) h.2
          ∙ held_goes_on m4 m5 base (length states) start uncleared s h.0 arrivals (are s h.0 h.1) set below
          inputs run r5 n within;
      lives = λ s n below within.
          let h = at states s below in
          let live = (are s h.0 h.1).live inputs run r4 n within in
          let off = opposite inputs run r4 n within in
          subst (λ (k : ℕ). On (run k) n ↔ ((On (run (get_or (held_nets states) s 0)) n ⊎ ((s ≡ 0) × On (run start) n))
          × ¬ On (run clear) n)) (sym h.3)
          (subst (λ (k : ℕ). On (run h.0.live.0) n ↔ ((On (run k) n ⊎ ((s ≡ 0) × On (run start) n))
          × ¬ On (run clear) n)) (sym h.2)
          ((λ on. let p = live.0 on in (p.0, off.0 p.1)), (λ p. live.1 (p.0, off.1 p.1))));
      arrives = λ t n below within. arrive inputs run r4 n within t below;
    }

-- what arrives at a place is what a path leads there from an open start
pub arrivals_are : (m4 m5 : Netlist) (base start clear uncleared places : ℕ) (states : List State) (arrivals : List ℕ)
    (Steps : Run → (s t n : ℕ) → Type 0) → AreStates m4 base start uncleared states
    → AreSet m4 base (length states) arrivals m5
    → InEachCycle m4 (λ run n. On (run uncleared) n ↔ ¬ On (run clear) n)
    → InEachCycle m4 (λ run n. (t : ℕ) → t < places → On (stream_at run arrivals t) n
    ↔ ((s : ℕ) × (s < length states) × (On (stream_at run (live_nets states) s) n × Steps run s t n)))
    → length states ≤ places → 0 < length states
    → InEachCycle m5 (λ run n. (t : ℕ) → t < places → On (stream_at run arrivals t) n
    ↔ Comes (length states) (Steps run) (run start) (run clear) t n)
arrivals_are m4 m5 base start clear uncleared places states arrivals Steps are set opposite arrive fits some
    inputs run r5 n within t below =
    one_hot (length states) places (length inputs.trace) (Steps run) (run start) (run clear)
    (stream_at run (held_nets states)) (stream_at run (live_nets states)) (stream_at run arrivals)
    (framed m4 m5 base start clear uncleared places states arrivals Steps are set opposite arrive inputs run r5)
    fits some t n below within
