-- When a table is the place graph of a core sequence: up to the numbers of its states, the part that the start place
-- reaches. `label` gives the label of a Boolean.
use Rattle.std.specs.Prelude.{◌≡◌, ◌≢◌, ◌↔◌, Bool, List, Some, map, slice_get, AllPairs, Contains}
use Rattle.psl_model.specs.Expr.{Expr}
use Rattle.psl_meaning.specs.Sequence.{CoreSere}
use Rattle.sequence_cores.specs.PlaceGraph.{Place, start_of, accepts, Step}
use Rattle.auto_core.specs.declared.labels.Literal.{Literal}
use Rattle.auto_core.specs.declared.tables.Edge.{Edge}
use Rattle.auto_core.specs.Graph.{Graph}
use Rattle.auto_core.specs.LiteralSets.{put_all}

-- some path of steps leads from the start to the place
pub data ReachedBy {P L : Type 0} (start : P) (step : P → L → P → Type 0) : P → Type 0 where
  at_start : ReachedBy start step start
  by_step : {p : P} (label : L) (next : P) → ReachedBy start step p → step p label next → ReachedBy start step next

-- the edge is a step, where each number calls the place that the list has there
abbrev pub IsStepIn : {P : Type 0} → (step : P → List Literal → P → Type 0) → List P → Edge → Type 0
IsStepIn {P} step places e =
    (p : P) × (q : P) × (slice_get places e.from ≡ Some p) × (slice_get places e.to ≡ Some q) × step p e.label q

-- The table is what the start reaches, when number n calls the n-th place of the list.
pub record IsPartOf {P : Type 0} (start : P) (accepting : P → Bool) (step : P → List Literal → P → Type 0)
    (places : List P) (g : Graph) : Type 0 where
  -- the list has the start first, and each reached place once
  pub first : slice_get places 0 ≡ Some start
  pub different : AllPairs (λ p q. p ≢ q) places
  pub reached : (p : P) → Contains places p ↔ ReachedBy start step p
  -- the same places accept, and the edges are the steps between these places, each once
  pub accepts : g.accepting ≡ map accepting places
  pub edges : (e : Edge) → Contains g.edges e ↔ IsStepIn step places e
  pub once : AllPairs (λ d e. d ≢ e) g.edges

-- the literals of both labels
abbrev pub joined_label : List Literal → List Literal → List Literal
joined_label x y = put_all y x

abbrev pub IsPlaceTable : (label : Expr → List Literal) → CoreSere → Graph → Type 0
IsPlaceTable label r g =
    (places : List Place) × IsPartOf (start_of r) (accepts r) (Step label joined_label r) places g
