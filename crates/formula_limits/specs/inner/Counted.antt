-- Sequences that are counted one after the other.
use Rattle.std.specs.Prelude.{ℕ, suc, ◌≡◌, ◌<◌, ◌+◌, List, ◌∷◌, ◌++◌, All, length, MatchResult}
use Rattle.std.specs.declared.result.Result.{Result}
use Rattle.psl_model.specs.Sere.{Sere}
use Rattle.sequence_cores.specs.Places.{places_of, place_limit, told}
use Rattle.formula_limits.specs.Places.{IsSmall, told_number}
use Rattle.formula_limits.specs.declared.places.LargeSequence.{LargeSequence}

-- the first of these sequences that has too many places is told so, where so many were counted before them
pub record HasLargeBehind (behind : ℕ) (sequences : List Sere) (number places : ℕ) : Type 0 where
  pub before : List Sere
  pub large : Sere
  pub later : List Sere
  pub split : sequences ≡ before ++ large ∷ later
  pub small : All IsSmall before
  pub above : place_limit < places_of large
  pub is_number : number ≡ told_number (behind + suc (length before))
  pub is_places : places ≡ told (places_of large)

-- none has too many, and behind them so many are counted
pub record AreCounted (sequences : List Sere) (before after : ℕ) : Type 0 where
  pub small : All IsSmall sequences
  pub counted : (n : ℕ) → before ≡ told_number n → after ≡ told_number (n + length sequences)

-- what these sequences answer, where `before` counts those before them
abbrev pub Tells : (sequences : List Sere) → (before : ℕ) → Result ℕ LargeSequence → Type 0
Tells sequences before result = MatchResult result (λ after. AreCounted sequences before after)
    (λ large. (n : ℕ) → before ≡ told_number n → HasLargeBehind n sequences large.sequence large.places)
