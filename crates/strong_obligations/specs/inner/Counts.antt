-- What is counted from open starts on while a chain of counts is made.
use Rattle.std.specs.Prelude.{ℕ, suc, ◌↔◌, ◌⊎◌, ◌<◌, ◌≤◌, Bool, true, false}
use Rattle.circuit_core.specs.Run.{Stream, On}
use Rattle.circuit_core.specs.Starts.{Open, SomeStart}
use Rattle.strong_obligations.specs.Events.{times_to, FromEvent}
use Rattle.strong_obligations.specs.inner.Delays.{IsOpposite}

-- it is live where it begins or stayed in the cycle before, and isn't cleared; it stays from where it is live and `keep`
-- is on, and from where something comes
pub record IsStage (cycles : ℕ) (Begins Comes : ℕ → Type 0) (uncleared keep live stays : Stream) : Type 0 where
  pub first : 0 < cycles → On live 0 ↔ (Begins 0 × On uncleared 0)
  pub later : (n : ℕ) → suc n < cycles →
      On live (suc n) ↔ ((On stays n ⊎ Begins (suc n)) × On uncleared (suc n))
  pub keeps : (n : ℕ) → n < cycles → On stays n ↔ ((On live n × On keep n) ⊎ Comes n)

-- it is on in this cycle, an open start has come to from `first` to `last` cycles with it, and P holds from the `low`-th
-- on
abbrev pub IsCounted : (on : Stream) → (low : ℕ) → (ℕ → Type 0) → (first last : ℕ) → (start clear : Stream) →
    ℕ → Type 0
IsCounted on low P first last start clear n = On on n × SomeStart start n (λ i.
    Open clear i n × (first ≤ times_to on i n) × (times_to on i n ≤ last) × FromEvent on low P i n)

-- an open start has come to less than `high` cycles with it, and P holds from the `low`-th on
abbrev pub IsCountedBelow : (on : Stream) → (low : ℕ) → (ℕ → Type 0) → (high : ℕ) → (start clear : Stream) →
    ℕ → Type 0
IsCountedBelow on low P high start clear n = SomeStart start n (λ i.
    Open clear i n × (times_to on i n < high) × FromEvent on low P i n)

-- the net by which events pass
abbrev pub passing : (is_late : Bool) → (late on : ℕ) → ℕ
passing true late on = late
passing false late on = on

-- the streams that are counted over: `quiet` and `uncleared` are opposites, and `late` is on only where `on` is
pub record AreCounted (cycles : ℕ) (on quiet late clear uncleared : Stream) : Type 0 where
  pub quiets : IsOpposite cycles on quiet
  pub opens : IsOpposite cycles clear uncleared
  pub lates : (n : ℕ) → n < cycles → On late n → On on n
