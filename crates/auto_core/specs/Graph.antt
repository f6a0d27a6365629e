-- Tables as plain data, when a table is the part of an automaton that its start reaches, and which states are alive.
use Rattle.std.specs.Prelude.{◌≡◌, ◌≢◌, ◌↔◌, ℕ, ◌<◌, Bool, false, IsTrue, List, ◌==◌, None, Some, length, map, filter}
use Rattle.std.specs.Prelude.{replicate, slice_get, slice_index_or, AllPairs, All, Contains}
use Rattle.auto_core.specs.declared.labels.Literal.{Literal}
use Rattle.auto_core.specs.declared.tables.Edge.{Edge}
use Rattle.auto_core.specs.Machine.{Machine, AcceptsFrom}

-- which of the states 0, 1, and so on accept, and all edges
pub record Graph : Type 0 where
  pub accepting : List Bool
  pub edges : List Edge

-- the edges that leave the n-th state, each with its label and the state that it leads to
abbrev pub edges_from : ℕ → List Edge → List (List Literal × ℕ)
edges_from n edges = map (λ e. (e.label, e.to)) (filter (λ e. e.from == n) edges)

-- the automaton that a table is: it starts in state 0
abbrev pub graph_machine : Graph → Machine ℕ
graph_machine g = record {
  start = 0;
  accepts = λ n. slice_index_or g.accepting n false;
  edges = λ n. edges_from n g.edges;
}

-- ---- the states that an automaton reaches

-- some path leads from the start to the state
pub data Reached {S : Type 0} (m : Machine S) : S → Type 0 where
  at_start : Reached m m.start
  by_edge : {s : S} (label : List Literal) (next : S) → Reached m s → Contains (m.edges s) (label, next) →
      Reached m next

-- there are more than n states that some path leads to
abbrev pub ReachesMoreThan : {S : Type 0} → Machine S → ℕ → Type 0
ReachesMoreThan {S} m n =
    (states : List S) × AllPairs (λ s t. s ≢ t) states × All (Reached m) states × (n < length states)

-- ---- the reached part, up to the numbers of its states

-- the edge is a step of the machine, where each number calls the state that the list has at its place
abbrev pub IsStepOf : {S : Type 0} → Machine S → List S → Edge → Type 0
IsStepOf {S} m states e =
    (p : S) × (q : S) × (slice_get states e.from ≡ Some p) × (slice_get states e.to ≡ Some q)
    × Contains (m.edges p) (e.label, q)

-- The table is what the machine's start reaches, when number n calls the n-th state of the list.
pub record IsReachedPart {S : Type 0} (m : Machine S) (states : List S) (g : Graph) : Type 0 where
  -- the list has the start first, and each reached state once
  pub start : slice_get states 0 ≡ Some m.start
  pub different : AllPairs (λ s t. s ≢ t) states
  pub reached : (s : S) → Contains states s ↔ Reached m s
  -- the same states accept, and the edges are the steps between these states, each once
  pub accepting : g.accepting ≡ map m.accepts states
  pub edges : (e : Edge) → Contains g.edges e ↔ IsStepOf m states e
  pub once : AllPairs (λ d e. d ≢ e) g.edges

-- ---- aliveness

-- some list of tops is accepted from the state, maybe the empty one
abbrev pub IsAlive : {S : Type 0} → Machine S → S → Type 0
IsAlive m s = (n : ℕ) × AcceptsFrom m s (replicate n None)

-- the marks tell which states are alive
pub record AreMarks (g : Graph) (marks : List Bool) : Type 0 where
  pub each : length marks ≡ length g.accepting
  pub alive :
      (state : ℕ) → state < length g.accepting
      → IsTrue (slice_index_or marks state false) ↔ IsAlive (graph_machine g) state
