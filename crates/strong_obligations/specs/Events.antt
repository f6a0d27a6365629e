-- A body that is started, or an expression that is looked for, at the cycles with an event from each start on. The first
-- that counts for a start may be in the start's own cycle.
use Rattle.std.specs.Prelude.{ℕ, zero, suc, ◌≡◌, ◌+◌, ◌-◌, ◌<◌, ◌≤◌}
use Rattle.circuit_core.specs.Run.{Stream, On, truth}
use Rattle.circuit_core.specs.Starts.{Open, SomeStart}

-- in how many of so many cycles from cycle i on it is on
abbrev pub times : (on : Stream) → (i cycles : ℕ) → ℕ
times on i zero = 0
times on i (suc cycles) = times on i cycles + truth (on (i + cycles))

-- in how many of the cycles from i to n
abbrev pub times_to : (on : Stream) → (i n : ℕ) → ℕ
times_to on i n = times on i (suc n - i)

-- ---- a body

-- it is on in this cycle, and from `low` to `high` times from an open start to this cycle
abbrev pub IsDueEvent : (on : Stream) → (low high : ℕ) → (start clear : Stream) → ℕ → Type 0
IsDueEvent on low high start clear n =
    On on n × SomeStart start n (λ i. Open clear i n × (low ≤ times_to on i n) × (times_to on i n ≤ high))

-- it was on less than `high` times from an open start to this cycle
abbrev pub IsAwaitedEvent : (on : Stream) → (high : ℕ) → (start clear : Stream) → ℕ → Type 0
IsAwaitedEvent on high start clear n = SomeStart start n (λ i. Open clear i n × (times_to on i n < high))

-- ---- an expression

-- in each cycle from i to n in which it is on for at least the `low`-th time from i, P holds
abbrev pub FromEvent : (on : Stream) → (low : ℕ) → (ℕ → Type 0) → (i n : ℕ) → Type 0
FromEvent on low P i n = (m : ℕ) → i ≤ m → m ≤ n → On on m → low ≤ times_to on i m → P m

-- cycle k is the `high`-th with the event from an open start on, and `seen` is off in each from the `low`-th to it
abbrev pub IsMissedAt : (on seen : Stream) → (low high : ℕ) → (clear : Stream) → (k i : ℕ) → Type 0
IsMissedAt on seen low high clear k i =
    Open clear i k × On on k × (times_to on i k ≡ high) × FromEvent on low (λ m. ¬ On seen m) i k

-- by cycle n some start has come to such a cycle
abbrev pub IsMissedBy : (on seen : Stream) → (low high : ℕ) → (start clear : Stream) → ℕ → Type 0
IsMissedBy on seen low high start clear n =
    SomeStart start n (λ i. (k : ℕ) × (i ≤ k) × (k ≤ n) × IsMissedAt on seen low high clear k i)

-- an open start has come to less than `high` cycles with the event, and `seen` was off in each from the `low`-th on
abbrev pub IsUnseen : (on seen : Stream) → (low high : ℕ) → (start clear : Stream) → ℕ → Type 0
IsUnseen on seen low high start clear n = SomeStart start n (λ i.
    Open clear i n × (times_to on i n < high) × FromEvent on low (λ m. ¬ On seen m) i n)
