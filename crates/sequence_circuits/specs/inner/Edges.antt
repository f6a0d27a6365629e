-- Where the edges of a table lead in one cycle.
use Rattle.std.specs.Prelude.{ℕ, ◌≡◌, ◌<◌, ◌⊎◌, ◌==◌, ◌&&◌, Bool, List, [], ◌∷◌, Some, All, slice_get}
use Rattle.auto_core.specs.declared.tables.Edge.{Edge}
use Rattle.auto_core.specs.LiteralSets.{same_label}
use Rattle.auto_core.specs.Machine.{Letter, Passes}
use Rattle.circuit_core.specs.Run.{Stream, Run, On}
use Rattle.sequence_circuits.specs.declared.edges.Way.{Way}
use Rattle.sequence_circuits.specs.inner.Nets.{stream_at}

abbrev pub Among : {X : Type 0} → List X → X → Type 0
Among [] x = ⊥
Among (y ∷ ys) x = (y ≡ x) ⊎ Among ys x

-- the edge leads to s, from a state that is live in cycle n, under a label that the letter passes
abbrev pub Takes : (live : ℕ → Stream) → Letter → (s n : ℕ) → Edge → Type 0
Takes live letter s n e = (e.to ≡ s) × On (live e.from) n × Passes e.label letter

-- one of the edges does
abbrev pub Arrives : List Edge → (live : ℕ → Stream) → Letter → (s n : ℕ) → Type 0
Arrives edges live letter s n = (e : Edge) × Among edges e × Takes live letter s n e

-- the way that the edge takes
abbrev pub way_of : Edge → Way
way_of e = record { label = e.label; to = e.to }

-- whether two ways have the same literals and the same target
abbrev pub same_way : Way → Way → Bool
same_way a b = same_label a.label b.label && (a.to == b.to)

-- a way under symbols below a number, to a place below another
pub record IsWithin (symbols targets : ℕ) (way : Way) : Type 0 where
  pub symbols_below : All (λ l. l.symbol < symbols) way.label
  pub to_below : way.to < targets

-- a way leads to s under a label that the letter passes, and its source is on
abbrev pub IsTaken : Way → (source : Stream) → Letter → (s n : ℕ) → Type 0
IsTaken way source letter s n = (way.to ≡ s) × On source n × Passes way.label letter

-- one of the ways before a place does, each with the source at its place
abbrev pub IsOneTaken : (end : ℕ) → List Way → Run → (sources : List ℕ) → Letter → (s n : ℕ) → Type 0
IsOneTaken end ways run sources letter s n =
    (p : ℕ) × (p < end) × (way : Way) × (slice_get ways p ≡ Some way) × IsTaken way (stream_at run sources p) letter s n
