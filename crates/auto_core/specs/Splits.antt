-- What a list is made of, said by its splits: two lists one after the other, two that share one element, or finitely
-- many non-empty ones.
use Rattle.std.specs.Prelude.{◌≡◌, ◌≢◌, List, [], ◌∷◌, ◌++◌}
use Rattle.std.specs.List.{AllByRecursion}

-- the lists one after the other
abbrev pub joined : {X : Type 0} → List (List X) → List X
joined [] = []
joined (u ∷ us) = u ++ joined us

module _ {X : Type 0} where
  -- a list of P, and after it one of Q
  abbrev pub IsConcatenation : (P Q : List X → Type 0) → List X → Type 0
  IsConcatenation P Q w = (u : List X) × (v : List X) × (w ≡ u ++ v) × P u × Q v

  -- a list of P and one of Q that overlap in one element, the last of the first and the first of the second
  abbrev pub IsFusion : (P Q : List X → Type 0) → List X → Type 0
  IsFusion P Q w = (u : List X) × (a : X) × (v : List X) × (w ≡ u ++ a ∷ v) × P (u ++ a ∷ []) × Q (a ∷ v)

  -- finitely many non-empty lists of P one after the other, or none
  abbrev pub IsRepetition : (P : List X → Type 0) → List X → Type 0
  IsRepetition P w = (parts : List (List X)) × AllByRecursion (λ u. (u ≢ []) × P u) parts × (w ≡ joined parts)
