-- What is found is what is detected.
use Rattle.std.proofs.Common.{◌≡◌, ℕ, ◌<◌, false, IsTrue, List, length, get_or, ◌↔◌, sym}
use Rattle.std.proofs.Common.{subst, arith}
use Rattle.auto_core.specs.declared.tables.Edge.{Edge}
use Rattle.auto_core.specs.Graph.{Graph, graph_machine}
use Rattle.circuit_core.specs.declared.nodes.Net.{Net}
use Rattle.circuit_core.specs.Netlist.{Netlist}
use Rattle.circuit_core.specs.Run.{On, InEachCycle}
use Rattle.sequence_circuits.specs.declared.states.State.{State}
use Rattle.sequence_circuits.specs.Guards.{numbers}
use Rattle.sequence_circuits.specs.Detection.{letter_at, IsDetected}
use Rattle.sequence_circuits.specs.inner.Nets.{live_nets, stream_at, AreStates, AreSet}
use Rattle.sequence_circuits.specs.inner.Edges.{Arrives}
use Rattle.sequence_circuits.proofs.OneHot.{Comes}
use Rattle.sequence_circuits.proofs.Paths.{AreBetween, EdgeSteps, edges_step, detects}
use Rattle.sequence_circuits.proofs.Frame.{arrivals_are}

-- with one name for each list
found : (g : Graph) (m4 m5 : Netlist) (base start clear uncleared : ℕ) (states : List State) (arrivals : List Net)
    (guards : List ℕ) (net : ℕ) → length states ≡ length g.accepting → AreBetween (length g.accepting) g.edges
    → AreStates m4 base start uncleared states → AreSet m4 base (length states) (numbers arrivals) m5
    → InEachCycle m4 (λ run n. On (run uncleared) n ↔ ¬ On (run clear) n)
    → InEachCycle m4 (λ run n. (s : ℕ) → s < length states → On (stream_at run (numbers arrivals) s) n
    ↔ Arrives g.edges (stream_at run (live_nets states)) (letter_at run guards n) s n)
    → InEachCycle m4 (λ run n. On (run net) n ↔ ((s : ℕ) × (s < length g.accepting)
    × (IsTrue (get_or g.accepting s false) × On (stream_at run (numbers arrivals) s) n)))
    → InEachCycle m5 (λ run n.
    On (run net) n ↔ IsDetected (graph_machine g) (letter_at run guards) (run start) (run clear) n)
found g m4 m5 base start clear uncleared states arrivals guards net counted between are set opposite arrive finds
    inputs run r5 n within =
    detects g (letter_at run guards) between (run start) (run clear) n (On (run net) n)
    (λ s. On (stream_at run (numbers arrivals) s) n) (finds inputs run (set.runs inputs run r5) n within)
    (subst (λ (k : ℕ). (t : ℕ) → t < k → On (stream_at run (numbers arrivals) t) n
    ↔ Comes k (EdgeSteps g.edges (letter_at run guards)) (run start) (run clear) t n) counted comes)
  where
    steps : InEachCycle m4 (λ run n. (t : ℕ) → t < length states → On (stream_at run (numbers arrivals) t) n
        ↔ ((s : ℕ) × (s < length states)
        × (On (stream_at run (live_nets states) s) n × EdgeSteps g.edges (letter_at run guards) s t n)))
    steps inputs run r n within t below =
        let a = arrive inputs run r n within t below in
        let e = edges_step (length states) g.edges (letter_at run guards) (stream_at run (live_nets states)) t n
        (subst (λ (k : ℕ). AreBetween k g.edges) (sym counted) between) in
        ((λ on. e.0 (a.0 on)), (λ x. a.1 (e.1 x)))

    comes : (t : ℕ) → t < length states → On (stream_at run (numbers arrivals) t) n
        ↔ Comes (length states) (EdgeSteps g.edges (letter_at run guards)) (run start) (run clear) t n
    comes t below =
        arrivals_are m4 m5 base start clear uncleared (length states) states (numbers arrivals)
        (λ run. EdgeSteps g.edges (letter_at run guards)) are set opposite steps (omega arith)
        (omega (arith, below)) inputs run r5 n within t below

-- where the code hands the lists on as slices
pub detected : (g : Graph) (m4 m5 : Netlist) (base start clear uncleared : ℕ) (states states1 states2 : List State)
    (arrivals arrivals1 arrivals2 : List Net) (guards : List ℕ) (net : ℕ) (edges : List Edge)
    → states1 ≡ states → states2 ≡ states → arrivals1 ≡ arrivals → arrivals2 ≡ arrivals → edges ≡ g.edges
    → length states ≡ length g.accepting → AreBetween (length g.accepting) g.edges
    → AreStates m4 base start uncleared states2 → AreSet m4 base (length states2) (numbers arrivals2) m5
    → InEachCycle m4 (λ run n. On (run uncleared) n ↔ ¬ On (run clear) n)
    → InEachCycle m4 (λ run n. (s : ℕ) → s < length states1 → On (stream_at run (numbers arrivals) s) n
    ↔ Arrives edges (stream_at run (live_nets states1)) (letter_at run guards n) s n)
    → InEachCycle m4 (λ run n. On (run net) n ↔ ((s : ℕ) × (s < length g.accepting)
    × (IsTrue (get_or g.accepting s false) × On (stream_at run (numbers arrivals1) s) n)))
    → InEachCycle m5 (λ run n.
    On (run net) n ↔ IsDetected (graph_machine g) (letter_at run guards) (run start) (run clear) n)
detected g m4 m5 base start clear uncleared states states1 states2 arrivals arrivals1 arrivals2 guards net edges es1 es2
    ea1 ea2 ee counted between are set opposite arrive finds =
    found g m4 m5 base start clear uncleared states arrivals guards net counted between
    (subst (AreStates m4 base start uncleared) es2 are)
    (subst (λ (ks : List Net). AreSet m4 base (length states) (numbers ks) m5) ea2
    (subst (λ (hs : List State). AreSet m4 base (length hs) (numbers arrivals2) m5) es2 set))
    opposite
    (subst (λ (es : List Edge). InEachCycle m4 (λ run n. (s : ℕ) → s < length states
    → On (stream_at run (numbers arrivals) s) n
    ↔ Arrives es (stream_at run (live_nets states)) (letter_at run guards n) s n)) ee
    (subst (λ (hs : List State). InEachCycle m4 (λ run n. (s : ℕ) → s < length hs
    → On (stream_at run (numbers arrivals) s) n
    ↔ Arrives edges (stream_at run (live_nets hs)) (letter_at run guards n) s n)) es1 arrive))
    (subst (λ (ks : List Net). InEachCycle m4 (λ run n. On (run net) n ↔ ((s : ℕ) × (s < length g.accepting)
    × (IsTrue (get_or g.accepting s false) × On (stream_at run (numbers ks) s) n)))) ea1 finds)
