-- Reached sets as numbered nodes with tables of moves.
use Rattle.std.specs.Prelude.{◌≡◌, ◌≢◌, ℕ, ◌+◌, ◌*◌, ◌^◌, ◌<◌, ◌↔◌, Bool, IsTrue, List, [], ◌∷◌, Some, All, AllPairs}
use Rattle.std.specs.Prelude.{Contains, length, map, slice_get, if◌then◌else◌}
use Rattle.auto_core.specs.Machine.{Machine}
use Rattle.weak_determinise.specs.declared.sets.SetNode.{SetNode}
use Rattle.weak_determinise.specs.declared.sets.Move.{Move}
use Rattle.weak_determinise.specs.declared.sets.Move.TheVariants.{Empty, Accepting, Set}
use Rattle.weak_determinise.specs.ReachedSets.{HasSameStates, LeadsTo, Gives, IsReachedSet, Leaves}

-- the number whose bit k is the k-th truth value
abbrev pub number_of : List Bool → ℕ
number_of [] = 0
number_of (b ∷ bs) = (if b then 1 else 0) + 2 * number_of bs

-- the move tells what the values give from the set: nothing, an accepting state, or the node with this number
abbrev pub IsMove : Machine ℕ → List SetNode → List ℕ → (ℕ → Bool) → Move → Type 0
IsMove m nodes set values Empty = (t : ℕ) → ¬ LeadsTo m set values t
IsMove m nodes set values Accepting = (t : ℕ) × LeadsTo m set values t × IsTrue (m.accepts t)
IsMove m nodes set values (Set n) = (next : SetNode) × (slice_get nodes n ≡ Some next) × Gives m set values next.places
    × (next.places ≢ []) × All (λ t. ¬ IsTrue (m.accepts t)) next.places

-- a node has its places and leaving symbols in order, and a move for each of the values of these symbols
pub record IsNode (m : Machine ℕ) (nodes : List SetNode) (node : SetNode) : Type 0 where
  pub places : AllPairs (λ p q. p < q) node.places
  pub leaving : AllPairs (λ x y. x < y) node.leaving
  pub leaves : (x : ℕ) → Contains node.leaving x ↔ Leaves m node.places x
  pub count : length node.moves ≡ 2 ^ length node.leaving
  pub moves : (values : ℕ → Bool) → (move : Move) × (slice_get node.moves (number_of (map values node.leaving)) ≡ Some
      move) × IsMove m nodes node.places values move

-- the nodes are the reached sets, the start's first, each once
pub record AreReachedSets (m : Machine ℕ) (nodes : List SetNode) : Type 0 where
  pub start : (node : SetNode) × (slice_get nodes 0 ≡ Some node) × (node.places ≡ m.start ∷ [])
  pub reached : All (λ node. IsReachedSet m node.places) nodes
  pub each : (set : List ℕ) → IsReachedSet m set → (node : SetNode) × Contains nodes node × HasSameStates node.places
      set
  pub once : AllPairs (λ a b. ¬ HasSameStates a.places b.places) nodes
  pub all_nodes : All (IsNode m nodes) nodes
