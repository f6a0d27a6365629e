-- A sequence that is named anew counts the places that it counted.
use Rattle.std.proofs.Common.{◌≡◌, ℕ, ◌+◌, ◌*◌, refl, ap}
use Rattle.psl_model.specs.Sere.{Sere, bool, concat, fuse, or, both, meet, within, repeat, goto, equal}
use Rattle.port_formulas.specs.Over.{sere_named}
use Rattle.sequence_cores.specs.Places.{places_of, repeated_places}

pub places_named : (name : ℕ → ℕ) (r : Sere) → places_of (sere_named name r) ≡ places_of r
places_named name (bool b) = refl
places_named name (concat r s) = λ i. places_named name r i + places_named name s i
places_named name (fuse r s) = λ i. places_named name r i + places_named name s i
places_named name (or r s) = λ i. places_named name r i + places_named name s i + 1
places_named name (both r s) = λ i. places_named name r i * places_named name s i
places_named name (meet r s) =
    λ i. places_named name r i * (places_named name s i + 3) + (places_named name r i + 3) * places_named name s i + 1
places_named name (within r s) = λ i. (places_named name r i + 6) * places_named name s i
places_named name (repeat r low high) = ap (repeated_places low high) (places_named name r)
places_named name (goto b low high) = refl
places_named name (equal b low high) = refl
