-- When a start violates a base formula, when it pends for it, and when two streams check a formula. A formula is
-- started in each cycle in which the stream `start` is on, and a start is dropped in the first cycle from its own on in
-- which `clear` is on.
--     StartViolates .. n i   by n, start i has violated
--     StartPends .. n i      at n, start i pends
--     IsCheck ..             `fail` and `pend` tell which starts violate and pend
--     IsCheckIn m ..         the same of four nets, in each run of the netlist
--     IsGateOf ..            a gate starts a body so that a check of the body becomes one of the whole
use Rattle.std.specs.Prelude.{ℕ, suc, ◌⊎◌, ◌≡◌, ◌↔◌, ◌<◌, ◌≤◌, Bool, IsTrue, List, length}
use Rattle.psl_meaning.specs.Word.{Valuation}
use Rattle.psl_meaning.specs.Violation.{WeaklyViolates, Violates}
use Rattle.psl_rewrite.specs.Base.{Base}
use Rattle.psl_rewrite.specs.Meaning.{named}
use Rattle.circuit_core.specs.Netlist.{Netlist}
use Rattle.circuit_core.specs.Run.{Stream, On, InEachRun}
use Rattle.circuit_core.specs.Starts.{HasViolated, Pends, Answers}
use Rattle.sequence_matches.specs.Matches.{letters}

-- the letters i to m violate the formula already, and as a word that ends
abbrev pub Weak : (widths : List ℕ) → List Valuation → Base → (i m : ℕ) → Type 0
Weak widths trace f i m = WeaklyViolates widths (named f) (letters trace i m)

abbrev pub Full : (widths : List ℕ) → List Valuation → Base → (i m : ℕ) → Type 0
Full widths trace f i m = Violates widths (named f) (letters trace i m)

-- for some m up to n, no cycle from i to m is cleared and the letters i to m violate already
abbrev pub StartViolates : (widths : List ℕ) → List Valuation → Base → (clear : Stream) → (n i : ℕ) → Type 0
StartViolates widths trace f clear n i = HasViolated (Weak widths trace f) clear n i

-- no cycle from i to n is cleared, and the letters i to n violate as a word that ends
abbrev pub StartPends : (widths : List ℕ) → List Valuation → Base → (clear : Stream) → (n i : ℕ) → Type 0
StartPends widths trace f clear n i = Pends (Full widths trace f) clear n i

-- `fail` is on in some cycle up to n exactly if some start up to n violates by n. Where none does, `pend` is on at n
-- exactly if some start up to n pends at n.
abbrev pub IsCheck : (widths : List ℕ) → List Valuation → Base → (start clear fail pend : Stream) → Type 0
IsCheck widths trace f start clear fail pend =
    Answers (length trace) (Weak widths trace f) (Full widths trace f) start clear fail pend

abbrev pub IsCheckIn : Netlist → (widths : List ℕ) → Base → (start clear fail pend : ℕ) → Type 0
IsCheckIn m widths f start clear fail pend = InEachRun m (λ inputs run.
    IsCheck widths inputs.trace f (run start) (run clear) (run fail) (run pend))

-- the first cycle from i on that is cleared, or the cycle after n where none up to n is
pub record IsStop (clear : Stream) (i n stop : ℕ) : Type 0 where
  pub from : i ≤ stop
  pub to : stop ≤ suc n
  pub before : (k : ℕ) → i ≤ k → k < stop → ¬ On clear k
  pub at : (stop ≡ suc n) ⊎ On clear stop

-- `pend` is on where the body's is and, in a strong form, where the gate waits
abbrev pub WaitsIfStrong : (cycles : ℕ) → (strong : Bool) → (body_pend waits pend : Stream) → Type 0
WaitsIfStrong cycles strong body_pend waits pend = (n : ℕ) → n < cycles →
    On pend n ↔ (On body_pend n ⊎ (IsTrue strong × On waits n))

abbrev pub IsGateOf : (widths : List ℕ) → List Valuation → (strong : Bool) → (whole body : Base) →
    (start clear go waits : Stream) → Type 0
IsGateOf widths trace strong whole body start clear go waits = (fail body_pend pend : Stream) →
    IsCheck widths trace body go clear fail body_pend → WaitsIfStrong (length trace) strong body_pend waits pend →
    IsCheck widths trace whole start clear fail pend
