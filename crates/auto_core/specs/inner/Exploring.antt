-- What is known of the states and edges that a search from the start has seen so far.
use Rattle.std.specs.Prelude.{◌≡◌, ℕ, ◌<◌, ◌≤◌, Bool, List, ◌∷◌, ◌++◌, Some, length, map, slice_get, take, All}
use Rattle.std.specs.List.{position_or_len}
use Rattle.indexmap.specs.IndexSet.{insert_key}
use Rattle.auto_core.specs.declared.labels.Literal.{Literal}
use Rattle.auto_core.specs.declared.tables.Edge.{Edge}
use Rattle.auto_core.specs.declared.tables.Row.{Row}
use Rattle.auto_core.specs.Machine.{Machine}
use Rattle.auto_core.specs.Graph.{Reached}
use Rattle.auto_core.specs.inner.Order.{Step, once_each, numbered, same_edge}
use Rattle.auto_core.specs.inner.Rows.{HasEdgesOf}

-- after these steps: the names that they led to, and their edges
pub record IsExplored {S : Type 0} (eq : S → S → Bool) (own : S → Type 0) (m : Machine S) (limit : ℕ)
    (steps : List (Step S)) (names : List S) (edges : List Edge) : Type 0 where
  pub named : names ≡ once_each eq (m.start ∷ map (λ e. e.to) steps)
  pub owned : All own names
  pub reached : All (Reached m) names
  pub few : length names ≤ limit
  pub joined : edges ≡ once_each same_edge (map (numbered eq names) steps)

-- an edge is taken: its target is named and the edge between the numbers is put in
pub record TakesEdge {S : Type 0} (eq : S → S → Bool) (own : S → Type 0) (m : Machine S) (limit : ℕ) (state : S)
    (from : ℕ) (place : ℕ) (names : List S) (edges : List Edge) (names' : List S) (edges' : List Edge) : Type 0 where
  pub label : List Literal
  pub next : S
  pub there : slice_get (m.edges state) place ≡ Some (label, next)
  pub owned : own next
  pub room : position_or_len (eq next) names < limit
  pub named : names' ≡ insert_key eq names next
  pub added : edges' ≡ insert_key same_edge edges
      (record { from = from; label = label; to = position_or_len (eq next) names })

-- the target of an edge is new, and there is no number for it
pub record FindsTooMany {S : Type 0} (eq : S → S → Bool) (m : Machine S) (limit : ℕ) (state : S) (place : ℕ)
    (names : List S) : Type 0 where
  pub label : List Literal
  pub next : S
  pub there : slice_get (m.edges state) place ≡ Some (label, next)
  pub full : limit ≤ position_or_len (eq next) names

-- the new edges are the old and after them some that leave the state
abbrev pub AddsEdgesOf : ℕ → List Edge → List Edge → Type 0
AddsEdgesOf from old new = (more : List Edge) × (new ≡ old ++ more) × All (λ e. e.from ≡ from) more

-- the first states have been explored, and their rows filed
pub record AreFiled {S : Type 0} (m : Machine S) (names : List S) (edges : List Edge) (rows : List Row) : Type 0 where
  pub accepting : map (λ r. r.accepts) rows ≡ map m.accepts (take (length rows) names)
  pub rows_there : (n : ℕ) (row : Row) → slice_get rows n ≡ Some row → HasEdgesOf edges n row
  pub below : All (λ e. e.from < length rows) edges
