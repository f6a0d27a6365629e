-- Sequences that have too many places. Those of a formula are numbered from 1, in reading order.
--     AreSmall f               each sequence of f has at most as many places as a checker is made of
--     HasTooManyPlaces f n p   the first that has more is told as number n, and its places as p
use Rattle.std.specs.Prelude.{ℕ, suc, ◌≡◌, ◌<◌, ◌≤◌, ◌-◌, ◌^◌, min, List, ◌∷◌, ◌++◌, All, length}
use Rattle.psl_model.specs.Sere.{Sere}
use Rattle.psl_rewrite.specs.Base.{Base}
use Rattle.psl_rewrite.specs.Conditions.{base_sequences}
use Rattle.sequence_cores.specs.Places.{places_of, place_limit, told}

abbrev pub IsSmall : Sere → Type 0
IsSmall r = places_of r ≤ place_limit

abbrev pub AreSmall : Base → Type 0
AreSmall f = All IsSmall (base_sequences f)

-- a number as it is told: 2^32 - 1 stands for all from there on, which no text of a unit comes to
abbrev pub told_number : ℕ → ℕ
told_number number = min number (2 ^ 32 - 1)

pub record HasTooManyPlaces (f : Base) (number places : ℕ) : Type 0 where
  pub before : List Sere
  pub large : Sere
  pub later : List Sere
  pub sequences : base_sequences f ≡ before ++ large ∷ later
  pub small : All IsSmall before
  pub above : place_limit < places_of large
  pub is_number : number ≡ told_number (suc (length before))
  pub is_places : places ≡ told (places_of large)
