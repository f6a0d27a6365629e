-- What is known while sets are numbered and expanded, one after the other.
use Rattle.std.specs.Prelude.{◌≡◌, ◌≢◌, ◌≤◌, ◌<◌, ◌^◌, ◌⊎◌, ◌↔◌, ℕ, Bool, IsTrue, List, [], ◌∷◌, ◌++◌, length, map}
use Rattle.std.specs.Prelude.{take, slice_get, Some, All, Contains}
use Rattle.std.specs.List.{position_or_len}
use Rattle.weak_determinise.specs.inner.Among.{Among}
use Rattle.auto_core.specs.Machine.{Machine}
use Rattle.weak_determinise.specs.declared.sets.Move.{Move}
use Rattle.weak_determinise.specs.declared.sets.Move.TheVariants.{Empty, Accepting, Set}
use Rattle.weak_determinise.specs.declared.sets.SetNode.{SetNode}
use Rattle.weak_determinise.specs.declared.marking.Steps.{Steps}
use Rattle.weak_determinise.specs.inner.Stepping.{Step, all_steps, IsFor, AreSteps, AreSymbols, AreRenamed}
use Rattle.weak_determinise.specs.Nodes.{number_of}
use Rattle.weak_determinise.specs.inner.Numbers.{IsRising}
use Rattle.weak_determinise.specs.inner.Moving.{Apart, same_places}
use Rattle.weak_determinise.specs.ReachedSets.{LeadsTo, Gives, Leaves, HasMoreLeaving, IsReachedSet}

-- some values give this set, which has a member, none of them accepting
pub record IsNextSet (m : Machine ℕ) (set next : List ℕ) : Type 0 where
  pub values : ℕ → Bool
  pub gives : Gives m set values next
  pub some : next ≢ []
  pub none : All (λ t. ¬ IsTrue (m.accepts t)) next
  pub rising : IsRising next

-- the names stay, and after them come new ones, each of a set that some values give
pub record Widens (m : Machine ℕ) (set : List ℕ) (limit : ℕ) (names names' : List (List ℕ)) : Type 0 where
  pub kept : (more : List (List ℕ)) × (names' ≡ names ++ more)
  pub new : (next : List ℕ) → Among names' next → Among names next ⊎ IsNextSet m set next
  pub apart : Apart names → Apart names'
  pub few : length names ≤ limit → length names' ≤ limit

-- the move tells what the values give, among these names
abbrev pub TellsSet : Machine ℕ → List (List ℕ) → List ℕ → (ℕ → Bool) → Move → Type 0
TellsSet m names set values Empty = (t : ℕ) → ¬ LeadsTo m set values t
TellsSet m names set values Accepting = (t : ℕ) × LeadsTo m set values t × IsTrue (m.accepts t)
TellsSet m names set values (Set n) = (next : List ℕ) × (slice_get names n ≡ Some next) × Gives m set values next ×
    (next ≢ []) × All (λ t. ¬ IsTrue (m.accepts t)) next

-- the node of a set, whose moves tell of sets by their numbers among the names
pub record IsNodeOf (m : Machine ℕ) (names : List (List ℕ)) (max_symbols : ℕ) (set : List ℕ)
    (node : SetNode) : Type 0 where
  pub places : node.places ≡ set
  pub rising : IsRising node.leaving
  pub leaves : (x : ℕ) → Contains node.leaving x ↔ Leaves m set x
  pub small : length node.leaving ≤ max_symbols
  pub count : length node.moves ≡ 2 ^ length node.leaving
  pub moves : (values : ℕ → Bool) → (move : Move) × (slice_get node.moves (number_of (map values node.leaving)) ≡ Some
      move) × TellsSet m names set values move

-- too many symbols leave the set, or there is no number for a set that some values give
abbrev pub IsTooLargeAt : Machine ℕ → ℕ → ℕ → List ℕ → List (List ℕ) → Type 0
IsTooLargeAt m limit max_symbols set names = HasMoreLeaving m set max_symbols ⊎ ((names' : List
    (List ℕ)) × Widens m set limit names names' × ((next : List ℕ) × IsNextSet m set next × (limit ≤ position_or_len
    (same_places next) names')))

-- the steps of a set with labels over its symbols' places
pub record IsPrepared (m : Machine ℕ) (count : ℕ) (set symbols : List ℕ) (renamed : Steps) : Type 0 where
  pub steps : List Step
  pub are : AreSteps m set steps
  pub known : AreSymbols steps symbols
  pub same : AreRenamed symbols steps (all_steps renamed)
  pub fits : IsFor (length symbols) count renamed

-- the sets that were numbered; those before `from` have their nodes
pub record IsPartWay (m : Machine ℕ) (count limit max_symbols from : ℕ) (names : List (List ℕ))
    (nodes : List SetNode) : Type 0 where
  pub first : slice_get names 0 ≡ Some (m.start ∷ [])
  pub reached : (set : List ℕ) → Among names set → IsReachedSet m set
  pub rising : (set : List ℕ) → Among names set → IsRising set
  pub owned : (set : List ℕ) → Among names set → All (λ p. p < count) set
  pub apart : Apart names
  pub few : length names ≤ limit
  pub places : map (λ node. node.places) nodes ≡ take from names
  pub made : (node : SetNode) → Among nodes node → IsNodeOf m names max_symbols node.places node
