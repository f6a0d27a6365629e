-- The check of an automaton of rows as a whole: its nets in m4, its nexts in m5.
use Rattle.std.proofs.Common.{◌≡◌, ℕ, ◌+◌, ◌<◌, List, length, get_or, ◌↔◌, sym, subst, arith}
use Rattle.circuit_core.specs.declared.nodes.Net.{Net}
use Rattle.circuit_core.specs.Netlist.{Netlist}
use Rattle.circuit_core.specs.Run.{On, InEachRun, InEachCycle}
use Rattle.circuit_core.specs.Starts.{Answers}
use Rattle.first_failure.specs.declared.automaton.FailRow.{FailRow}
use Rattle.first_failure.specs.declared.automaton.FailAuto.{FailAuto}
use Rattle.sequence_circuits.specs.declared.states.State.{State}
use Rattle.sequence_circuits.specs.Guards.{numbers, values_at}
use Rattle.sequence_circuits.specs.Obligation.{HasFailed, GoesOn}
use Rattle.sequence_circuits.specs.inner.Nets.{live_nets, stream_at, AreStates, AreSet}
use Rattle.sequence_circuits.specs.inner.Moves.{IsMovedTo}
use Rattle.sequence_circuits.proofs.Nets.{number_at, on_same}
use Rattle.sequence_circuits.proofs.OneHot.{Comes}
use Rattle.sequence_circuits.proofs.Frame.{arrivals_are}
use Rattle.sequence_circuits.proofs.Obliging.{RowSteps, Inside, rows_step, answers}

-- what arrives at a row, or at the failure behind the rows
abbrev pub AreMoved : Netlist → FailAuto → List State → (arrivals : List Net) → (guards : List ℕ) → Type 0
AreMoved m auto states arrivals guards = InEachCycle m (λ run n. (s : ℕ) → s < length auto.rows + 1
    → On (stream_at run (numbers arrivals) s) n ↔ IsMovedTo (length auto.rows) auto.rows
    (λ r. On (stream_at run (live_nets states) r) n) (values_at run guards n) (length auto.rows) s)

-- with one name for each list
answered : (auto : FailAuto) (m4 m5 : Netlist) (base start clear uncleared : ℕ) (states : List State)
    (arrivals : List Net) (guards : List ℕ) (fail : Net) (pend : ℕ) → length states ≡ length auto.rows
    → length arrivals ≡ length auto.rows + 1 → fail ≡ get_or arrivals (length auto.rows) fail → Inside auto
    → 0 < length auto.rows → AreStates m4 base start uncleared states
    → AreSet m4 base (length states) (numbers arrivals) m5
    → InEachCycle m4 (λ run n. On (run uncleared) n ↔ ¬ On (run clear) n) → AreMoved m4 auto states arrivals guards
    → InEachCycle m4 (λ run n. On (run pend) n ↔ ((s : ℕ) × (s < length auto.rows)
    × On (stream_at run (numbers arrivals) s) n))
    → InEachRun m5 (λ inputs run. Answers (length inputs.trace) (HasFailed auto (values_at run guards))
    (GoesOn auto (values_at run guards)) (run start) (run clear) (run fail.0) (run pend))
answered auto m4 m5 base start clear uncleared states arrivals guards fail pend counted longer failed inside some are
    set
    opposite moved pends inputs run r5 =
    answers auto (values_at run guards) inside some (length inputs.trace) (run start) (run clear) (run fail.0)
    (run pend)
    (stream_at run (numbers arrivals))
    (λ t n below within. subst (λ (k : ℕ). On (stream_at run (numbers arrivals) t) n
    ↔ Comes k (RowSteps auto (values_at run guards)) (run start) (run clear) t n) counted
    (arrivals_are m4 m5 base start clear uncleared (length auto.rows + 1) states (numbers arrivals)
    (λ run. RowSteps auto (values_at run guards)) are set opposite steps (omega (arith, counted))
    (omega (arith, some, counted)) inputs run r5 n within t below))
    (λ n. ((λ on. on_same run n _ _ (sym same) on), (λ on. on_same run n _ _ same on)))
    (λ n within. pends inputs run (set.runs inputs run r5) n within)
  where
    same : get_or (numbers arrivals) (length auto.rows) 0 ≡ fail.0
    same = number_at (λ (k : Net). k.0) arrivals (length auto.rows) fail (omega (arith, longer)) failed

    steps : InEachCycle m4 (λ run n. (t : ℕ) → t < length auto.rows + 1 → On (stream_at run (numbers arrivals) t) n
        ↔ ((s : ℕ) × (s < length states)
        × (On (stream_at run (live_nets states) s) n × RowSteps auto (values_at run guards) s t n)))
    steps inputs run r n within t below =
        let a = moved inputs run r n within t below in
        let e = rows_step auto (values_at run guards) (λ s. On (stream_at run (live_nets states) s) n) t n in (
          (λ on. let x = e.0 (a.0 on) in (x.0, omega (arith, x.1, counted), x.2)),
          (λ x. a.1 (e.1 (x.0, omega (arith, x.1, counted), x.2))),
        )

-- where the code hands the lists on as slices
pub obliged : (auto : FailAuto) (m4 m5 : Netlist) (base start clear uncleared : ℕ)
    (states states1 states2 : List State) (arrivals arrivals1 arrivals2 : List Net) (guards : List ℕ) (fail : Net)
    (pend : ℕ) (rows : List FailRow) → states1 ≡ states → states2 ≡ states → arrivals1 ≡ arrivals
    → arrivals2 ≡ arrivals → rows ≡ auto.rows → length states ≡ length auto.rows
    → length arrivals ≡ length auto.rows + 1 → fail ≡ get_or arrivals (length rows) fail → Inside auto
    → 0 < length auto.rows → AreStates m4 base start uncleared states2
    → AreSet m4 base (length states2) (numbers arrivals2) m5
    → InEachCycle m4 (λ run n. On (run uncleared) n ↔ ¬ On (run clear) n)
    → InEachCycle m4 (λ run n. (s : ℕ) → s < length rows + 1 → On (stream_at run (numbers arrivals) s) n
    ↔ IsMovedTo (length rows) rows (λ r. On (stream_at run (live_nets states1) r) n) (values_at run guards n)
    (length rows) s)
    → InEachCycle m4 (λ run n. On (run pend) n ↔ ((s : ℕ) × (s < length rows)
    × On (stream_at run (numbers arrivals1) s) n))
    → InEachRun m5 (λ inputs run. Answers (length inputs.trace) (HasFailed auto (values_at run guards))
    (GoesOn auto (values_at run guards)) (run start) (run clear) (run fail.0) (run pend))
obliged auto m4 m5 base start clear uncleared states states1 states2 arrivals arrivals1 arrivals2 guards fail pend rows
    es1 es2 ea1 ea2 er counted longer failed inside some are set opposite moved pends =
    answered auto m4 m5 base start clear uncleared states arrivals guards fail pend counted longer
    (subst (λ (rs : List FailRow). fail ≡ get_or arrivals (length rs) fail) er failed) inside some
    (subst (AreStates m4 base start uncleared) es2 are)
    (subst (λ (ks : List Net). AreSet m4 base (length states) (numbers ks) m5) ea2
    (subst (λ (hs : List State). AreSet m4 base (length hs) (numbers arrivals2) m5) es2 set))
    opposite
    (subst (λ (rs : List FailRow). InEachCycle m4 (λ run n. (s : ℕ) → s < length rs + 1
    → On (stream_at run (numbers arrivals) s) n
    ↔ IsMovedTo (length rs) rs (λ r. On (stream_at run (live_nets states) r) n) (values_at run guards n)
    (length rs) s)) er
    (subst (λ (hs : List State). InEachCycle m4 (λ run n. (s : ℕ) → s < length rows + 1
    → On (stream_at run (numbers arrivals) s) n
    ↔ IsMovedTo (length rows) rows (λ r. On (stream_at run (live_nets hs) r) n) (values_at run guards n)
    (length rows) s)) es1 moved))
    (subst (λ (rs : List FailRow). InEachCycle m4 (λ run n. On (run pend) n ↔ ((s : ℕ) × (s < length rs)
    × On (stream_at run (numbers arrivals) s) n))) er
    (subst (λ (ks : List Net). InEachCycle m4 (λ run n. On (run pend) n ↔ ((s : ℕ) × (s < length rows)
    × On (stream_at run (numbers ks) s) n))) ea1 pends))
