-- A body that is started in each cycle up to which nothing has stopped a start.
use Rattle.std.specs.Prelude.{ℕ, ◌≤◌}
use Rattle.circuit_core.specs.Run.{Stream, On}
use Rattle.circuit_core.specs.Starts.{Open, SomeStart}

-- a start is open, and `stop` is on in no cycle from it to n
abbrev pub IsUnstopped : (stop start clear : Stream) → ℕ → Type 0
IsUnstopped stop start clear n =
    SomeStart start n (λ i. Open clear i n × ((k : ℕ) → i ≤ k → k ≤ n → ¬ On stop k))
