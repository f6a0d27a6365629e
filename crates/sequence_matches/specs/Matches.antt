-- Where a sequence has matched, over all starts and clears.
--     IsMatched widths trace r start clear n   some start up to n has no cleared cycle up to n, and the letters from it
--                                              to n tightly satisfy the sequence
use Rattle.std.specs.Prelude.{ℕ, suc, ◌-◌, List, map, take, drop}
use Rattle.psl_model.specs.Sere.{Sere}
use Rattle.psl_meaning.specs.Word.{Valuation, valuation}
use Rattle.psl_meaning.specs.Sequence.{Tight}
use Rattle.psl_meaning.specs.SequenceSugar.{core_of}
use Rattle.circuit_core.specs.Run.{Stream}
use Rattle.circuit_core.specs.Starts.{Open, SomeStart}

-- the letters of the cycles i to n
abbrev pub letters : List Valuation → (i n : ℕ) → List Valuation
letters trace i n = take (suc n - i) (drop i trace)

abbrev pub IsMatched : (widths : List ℕ) → List Valuation → Sere → (start clear : Stream) → ℕ → Type 0
IsMatched widths trace r start clear n =
    SomeStart start n (λ i. Open clear i n × Tight widths (core_of r) (map valuation (letters trace i n)))
