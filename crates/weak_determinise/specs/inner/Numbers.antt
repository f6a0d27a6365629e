-- Sets of numbers, each as the list of its members in order.
use Rattle.std.specs.Prelude.{◌≡◌, ◌<◌, ◌↔◌, ◌⊎◌, ℕ, List, [], ◌∷◌}
use Rattle.std.specs.List.{AllByRecursion}
use Rattle.weak_determinise.specs.inner.Among.{Among}

-- each number is below all that follow it
abbrev pub IsRising : List ℕ → Type 0
IsRising [] = Unit {0}
IsRising (x ∷ xs) = AllByRecursion (λ y. x < y) xs × IsRising xs

-- the new set has this member beside those of the old one
pub record PutsIn (x : ℕ) (old new : List ℕ) : Type 0 where
  pub rising : IsRising new
  pub members : (y : ℕ) → Among new y ↔ ((y ≡ x) ⊎ Among old y)
