-- How many places a sequence counts.
use Rattle.std.specs.Prelude.{ℕ, zero, suc, ◌+◌, ◌-◌, ◌*◌, ◌^◌, min, Option, Some, None}
use Rattle.psl_model.specs.Sere.{Sere, bool, concat, fuse, or, both, meet, within, repeat, goto, equal}

-- the most places of a sequence of which a checker is made
abbrev pub place_limit : ℕ
place_limit = 4096

-- so many copies of a sequence of p places; none of them are `[*0]`, which has a place too
abbrev pub copied_places : (count p : ℕ) → ℕ
copied_places zero p = 1
copied_places (suc count) p = suc count * p

-- A repetition of a sequence of p places. Behind the lowest count each copy may be left out, for two places more.
abbrev pub repeated_places : (low : ℕ) → (high : Option ℕ) → (p : ℕ) → ℕ
repeated_places low (Some high) p = copied_places low p + (high - low) * (p + 2)
repeated_places zero None p = p + 1
repeated_places (suc low) None p = suc low * p + (p + 1)

abbrev pub places_of : Sere → ℕ
places_of (bool b) = 2
places_of (concat r s) = places_of r + places_of s
places_of (fuse r s) = places_of r + places_of s
places_of (or r s) = places_of r + places_of s + 1
places_of (both r s) = places_of r * places_of s
places_of (meet r s) = places_of r * (places_of s + 3) + (places_of r + 3) * places_of s + 1
places_of (within r s) = (places_of r + 6) * places_of s
places_of (repeat r low high) = repeated_places low high (places_of r)
places_of (goto b low high) = repeated_places low high 5
places_of (equal b low high) = repeated_places low high 5 + 3

-- a number of places as it is told: 2^63 stands for all from there on
abbrev pub told : ℕ → ℕ
told places = min places (2 ^ 63)
