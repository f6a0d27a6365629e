-- The sets of states that an obligation can be in, for any automaton. A set is a list of states, of which only the
-- members count.
use Rattle.std.specs.Prelude.{◌≡◌, ◌≢◌, ℕ, ◌<◌, ◌↔◌, ◌⊎◌, Bool, IsTrue, List, [], Some, All, AllPairs, Contains, length}
use Rattle.auto_core.specs.declared.labels.Literal.{Literal}
use Rattle.auto_core.specs.Machine.{Machine, Passes}
use Rattle.auto_core.specs.Graph.{IsAlive}

-- the lists have the same members
abbrev pub HasSameStates : {S : Type 0} → List S → List S → Type 0
HasSameStates {S} set other = (s : S) → Contains set s ↔ Contains other s

-- a step from a member to this alive state has this label
abbrev pub HasStep : {S : Type 0} → Machine S → List S → List Literal → S → Type 0
HasStep {S} m set label t = (s : S) × Contains set s × Contains (m.edges s) (label, t) × IsAlive m t

-- from the set the values lead to this state, which is alive
abbrev pub LeadsTo : {S : Type 0} → Machine S → List S → (ℕ → Bool) → S → Type 0
LeadsTo m set values t = (label : List Literal) × HasStep m set label t × Passes label (Some values)

-- the members of the next set are the states that the values lead to
abbrev pub Gives : {S : Type 0} → Machine S → List S → (ℕ → Bool) → List S → Type 0
Gives {S} m set values next = (t : S) → Contains next t ↔ LeadsTo m set values t

-- the set of the start alone, and each set with a member, none of them accepting, that some values give from a reached
-- set
pub data IsReachedSet {S : Type 0} (m : Machine S) : List S → Type 0 where
  at_start : (set : List S) → ((s : S) → Contains set s ↔ (s ≡ m.start)) → IsReachedSet m set
  by_values : (set next : List S) (values : ℕ → Bool) → IsReachedSet m set → Gives m set values next → next ≢ [] →
      All (λ t. ¬ IsTrue (m.accepts t)) next → IsReachedSet m next

-- the symbol stands in the label of a step from a member to an alive state
abbrev pub Leaves : {S : Type 0} → Machine S → List S → ℕ → Type 0
Leaves {S} m set symbol = (label : List Literal) × (t : S) × (l : Literal) × HasStep m set label t × Contains label l ×
    (l.symbol ≡ symbol)

-- there are more than this many reached sets
abbrev pub HasMoreSets : {S : Type 0} → Machine S → ℕ → Type 0
HasMoreSets {S} m count = (sets : List (List S)) × AllPairs (λ a b. ¬ HasSameStates a b) sets × All
    (IsReachedSet m) sets × (count < length sets)

-- more than this many symbols leave the set
abbrev pub HasMoreLeaving : {S : Type 0} → Machine S → List S → ℕ → Type 0
HasMoreLeaving m set count = (symbols : List ℕ) × AllPairs (λ x y. x ≢ y) symbols × All (Leaves m set) symbols ×
    (count < length symbols)

-- there are more reached sets than allowed, or one that more symbols than allowed leave
abbrev pub IsTooLarge : {S : Type 0} → Machine S → ℕ → ℕ → Type 0
IsTooLarge {S} m max_sets max_symbols = HasMoreSets m max_sets ⊎ ((set : List S) × IsReachedSet m set × HasMoreLeaving m
    set max_symbols)
