-- What is known of the moves of a set while they are made.
use Rattle.std.specs.Prelude.{◌≡◌, ◌≢◌, ◌≤◌, ◌<◌, ◌⊎◌, ℕ, Bool, IsTrue, List, [], ◌∷◌, ◌++◌, length, nat_eq}
use Rattle.std.specs.Prelude.{slice_get, Some}
use Rattle.std.specs.List.{position_or_len}
use Rattle.std.specs.Cmp.Lexicographic.{pointwise}
use Rattle.indexmap.specs.IndexSet.{insert_key}
use Rattle.weak_determinise.specs.inner.Among.{Among}
use Rattle.auto_core.specs.Machine.{Machine}
use Rattle.weak_determinise.specs.inner.Stepping.{Step}
use Rattle.weak_determinise.specs.declared.sets.Move.{Move}
use Rattle.weak_determinise.specs.declared.sets.Move.TheVariants.{Empty, Accepting, Set}
use Rattle.weak_determinise.specs.Nodes.{number_of}
use Rattle.weak_determinise.specs.inner.Stepping.{AreTargets}

abbrev pub same_places : List ℕ → List ℕ → Bool
same_places = pointwise nat_eq

-- no element stands there twice
abbrev pub Apart : List (List ℕ) → Type 0
Apart [] = Unit {0}
Apart (x ∷ xs) = (Among xs x → ⊥) × Apart xs

-- the bits lead to a set with a member, none of them accepting
pub record IsNext (m : Machine ℕ) (steps : List Step) (bits : List Bool) (next : List ℕ) : Type 0 where
  pub targets : AreTargets steps bits next
  pub some : next ≢ []
  pub none : (t : ℕ) → Among next t → ¬ IsTrue (m.accepts t)

-- the move tells where the bits lead, among these names of sets
abbrev pub Tells : Machine ℕ → List Step → List Bool → List (List ℕ) → Move → Type 0
Tells m steps bits names Empty = AreTargets steps bits []
Tells m steps bits names Accepting = (next : List ℕ) × AreTargets steps bits next × ((t : ℕ) × Among next t × IsTrue
    (m.accepts t))
Tells m steps bits names (Set n) = (next : List ℕ) × (slice_get names n ≡ Some next) × IsNext m steps bits next

-- the names are as they were, or have one more, of the set where the bits lead
pub record Grows (m : Machine ℕ) (steps : List Step) (bits : List Bool) (limit : ℕ) (names names' : List
    (List ℕ)) : Type 0 where
  pub kept : (names' ≡ names) ⊎ ((next : List ℕ) × IsNext m steps bits next × (position_or_len
      (same_places next) names < limit) × (names' ≡ insert_key same_places names next))

-- there is no number for where the bits lead
abbrev pub FindsFull : Machine ℕ → List Step → List Bool → ℕ → List (List ℕ) → Type 0
FindsFull m steps bits limit names = (next : List ℕ) × IsNext m steps bits next × (limit ≤ position_or_len
    (same_places next) names)

-- the names stay, and after them come new ones, each of a set where some bits lead
pub record Extends (m : Machine ℕ) (steps : List Step) (count limit : ℕ) (names names' : List (List ℕ)) : Type 0 where
  pub kept : (more : List (List ℕ)) × (names' ≡ names ++ more)
  pub new : (set : List ℕ) → Among names' set → Among names set ⊎ ((bits : List Bool) × (length bits ≡ count) × IsNext m
      steps bits set)
  pub apart : Apart names → Apart names'
  pub few : length names ≤ limit → length names' ≤ limit

-- the moves of the numbers below v
pub record AreMoves (m : Machine ℕ) (steps : List Step) (count limit v : ℕ) (names names' : List (List ℕ))
    (moves : List Move) : Type 0 where
  pub each : length moves ≡ v
  pub extends : Extends m steps count limit names names'
  pub tells : (bits : List Bool) → length bits ≡ count → number_of bits < v →
      (move : Move) × (slice_get moves (number_of bits) ≡ Some move) × Tells m steps bits names' move

-- after some new names there is no number for a set where some bits lead
abbrev pub IsFull : Machine ℕ → List Step → ℕ → ℕ → List (List ℕ) → Type 0
IsFull m steps count limit names = (names' : List (List ℕ)) × Extends m steps count limit names names' ×
    ((bits : List Bool) × (length bits ≡ count) × FindsFull m steps bits limit names')
