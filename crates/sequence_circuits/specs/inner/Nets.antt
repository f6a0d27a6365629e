-- States of runs as nets: each has a register, which is on where a run came to the state in the cycle before, and a net
-- that is on where a run is in it.
use Rattle.std.specs.Prelude.{ℕ, ◌≡◌, ◌⊎◌, ◌↔◌, ◌+◌, ◌<◌, ◌≤◌, List, Some, map, length, slice_get, slice_index_or}
use Rattle.circuit_core.specs.Netlist.{Netlist, Register, IsNet, IsNetOf}
use Rattle.circuit_core.specs.Run.{Stream, Run, On, IsRunOf, InEachRun, InEachCycle}
use Rattle.circuit_core.specs.Growth.{opened, closed}
use Rattle.sequence_circuits.specs.declared.states.State.{State}

-- the nets that tell where a run is in each state
abbrev pub live_nets : List State → List ℕ
live_nets states = map (λ h. h.live.0) states

-- the stream of the net at place s
abbrev pub stream_at : Run → List ℕ → ℕ → Stream
stream_at run nets s = run (slice_index_or nets s 0)

-- a run is in the state where the state is held, or is the first one and is started, and nothing is cleared
abbrev pub IsLive : (first : Type 0) → (held start uncleared live : Stream) → ℕ → Type 0
IsLive first held start uncleared live n = On live n ↔ ((On held n ⊎ (first × On start n)) × On uncleared n)

-- the state at place s, whose register has number base + s and no next yet
pub record IsState (m : Netlist) (base start uncleared s : ℕ) (h : State) : Type 0 where
  pub place : h.register.0 ≡ base + s
  pub net : IsNetOf m (base + s) h.held.0
  pub unset : slice_get m.registers (base + s) ≡ Some (opened 1 0)
  pub live_net : IsNet m h.live.0
  pub live : InEachCycle m (λ run n. IsLive (s ≡ 0) (run h.held.0) (run start) (run uncleared) (run h.live.0) n)

abbrev pub AreStates : Netlist → (base start uncleared : ℕ) → List State → Type 0
AreStates m base start uncleared states =
    (s : ℕ) (h : State) → slice_get states s ≡ Some h → IsState m base start uncleared s h

-- the new netlist is the old one with these nexts for so many registers from number `base` on
pub record AreSet (old : Netlist) (base count : ℕ) (nexts : List ℕ) (new : Netlist) : Type 0 where
  pub widths : new.widths ≡ old.widths
  pub nodes : new.nodes ≡ old.nodes
  pub others :
      (q : ℕ) (x : Register) → (q < base) ⊎ (base + count ≤ q) → slice_get old.registers q ≡ Some x
      → slice_get new.registers q ≡ Some x
  pub sets : (s : ℕ) → s < count → slice_get new.registers (base + s) ≡ Some (closed 1 0 (slice_index_or nexts s 0))
  pub size : length new.registers ≡ length old.registers
  pub output : new.output ≡ old.output
  pub runs : InEachRun new (λ inputs run. IsRunOf old inputs run)
