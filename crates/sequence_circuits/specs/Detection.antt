-- Where an automaton accepts what the guards show, over all starts and clears.
use Rattle.std.specs.Prelude.{ℕ, List, Some}
use Rattle.auto_core.specs.Machine.{Machine, Letter, Accepts}
use Rattle.circuit_core.specs.Run.{Stream, Run}
use Rattle.circuit_core.specs.Starts.{Open, SomeStart}
use Rattle.sequence_circuits.specs.Guards.{values_at, cycles_to}

-- the letter of cycle n
abbrev pub letter_at : Run → (guards : List ℕ) → ℕ → Letter
letter_at run guards n = Some (values_at run guards n)

-- some start up to n has no cleared cycle up to n, and the automaton accepts the letters from it to n
abbrev pub IsDetected : {S : Type 0} → Machine S → (ℕ → Letter) → (start clear : Stream) → ℕ → Type 0
IsDetected m letter start clear n = SomeStart start n (λ i. Open clear i n × Accepts m (cycles_to letter i n))
