-- Where the last edges of each state stand among its edges.
use Rattle.std.specs.Prelude.{◌≡◌, ℕ, ◌<◌, Bool, List, length, filter, take, Some, slice_get}
use Rattle.auto_core.specs.Graph.{Graph, graph_machine, edges_from}

-- these are places of elements that pass the test, in their order: of all that pass, and of those before place `end`
-- each
pub record HasPlaces {X : Type 0} (test : X → Bool) (xs : List X) (end : ℕ) (places : List ℕ) : Type 0 where
  pub count : length places ≡ length (filter test (take end xs))
  pub each :
      (rank place : ℕ) → slice_get places rank ≡ Some place
      → (place < length xs) × (slice_get xs place ≡ slice_get (filter test xs) rank)

-- the places of the edges of state n that lead to a state that accepts, of those before place `end`
abbrev pub ListsLasts : (g : Graph) (n end : ℕ) (places : List ℕ) → Type 0
ListsLasts g n end places =
    HasPlaces (λ x. (graph_machine g).accepts x.1) (edges_from n g.edges) end places

-- the first states, so many, have each its list of places
pub record KnowsLasts (g : Graph) (states : ℕ) (lasts : List (List ℕ)) : Type 0 where
  pub count : length lasts ≡ states
  pub each :
      (n : ℕ) (places : List ℕ) → slice_get lasts n ≡ Some places
      → ListsLasts g n (length (edges_from n g.edges)) places
