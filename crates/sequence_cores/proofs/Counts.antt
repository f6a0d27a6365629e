-- The place graph of a counted sequence has the number of places that is told.
use Rattle.std.proofs.Common.{◌≡◌, ℕ, zero, suc, ◌+◌, ◌-◌, ◌*◌, List, [], ◌∷◌, ◌++◌, map, length, Option, Some, None, refl}
use Rattle.std.proofs.Common.{sym, ap, ◌∙◌, arith, add-one}
use Rattle.std.proofs.lemmas.List.{length-append, length-map}
use Rattle.std.proofs.Math.Nat.{suc-mul, zero-mul, add_comm}
use Rattle.psl_model.specs.Sere as sere
use Rattle.psl_meaning.specs.Sequence.{CoreSere, empty, concat, fuse, or, both, star}
use Rattle.psl_meaning.specs.SequenceSugar as sugar
use Rattle.psl_meaning.specs.SequenceSugar.{copies}
use Rattle.psl_rewrite.specs.CoreSere as core
use Rattle.psl_rewrite.specs.Meaning.{meant_core}
use Rattle.sequence_cores.specs.Places.{copied_places, repeated_places, places_of}
use Rattle.sequence_cores.specs.Counted as counted
use Rattle.sequence_cores.specs.Counted.{copied, ranged, counted_repeat, counted_as}
use Rattle.sequence_cores.specs.PlaceGraph.{Place, left, right, pair, inner, pairs, places_in}

abbrev count : CoreSere → ℕ
count r = length (places_in r)

count_sides : (ps qs : List Place) → length (map left ps ++ map right qs) ≡ length ps + length qs
count_sides ps qs =
    length-append (map left ps) (map right qs) ∙ ap (λ (n : ℕ). n + length (map right qs)) (length-map ps left)
    ∙ ap (λ (n : ℕ). length ps + n) (length-map qs right)

count_pairs : (ps qs : List Place) → length (pairs ps qs) ≡ length ps * length qs
count_pairs [] qs = sym (zero-mul (length qs))
count_pairs (p ∷ ps) qs =
    length-append (map (pair p) qs) (pairs ps qs)
    ∙ ap (λ (n : ℕ). n + length (pairs ps qs)) (length-map qs (pair p))
    ∙ ap (λ (n : ℕ). length qs + n) (count_pairs ps qs)
    ∙ add_comm (length qs) (length ps * length qs) ∙ sym (suc-mul (length ps) (length qs))

count_or : (r s : CoreSere) → count (or r s) ≡ count r + count s + 1
count_or r s = ap suc (count_sides (places_in r) (places_in s)) ∙ sym (add-one (count r + count s))

count_star : (r : CoreSere) → count (star r) ≡ count r + 1
count_star r = ap suc (length-map (places_in r) inner) ∙ sym (add-one (count r))

count_copies : (k : ℕ) (r : CoreSere) → count (copies k r) ≡ copied_places k (count r)
count_copies zero r = refl
count_copies (suc zero) r =
    let one : count r ≡ suc zero * count r = omega arith in
    one
count_copies (suc (suc k)) r =
    count_sides (places_in (copies (suc k) r)) (places_in r)
    ∙ ap (λ (n : ℕ). n + count r) (count_copies (suc k) r) ∙ sym (suc-mul (suc k) (count r))

count_copied : (k : ℕ) (r : core.CoreSere) → count (meant_core (copied k r)) ≡ copied_places k (count (meant_core r))
count_copied zero r = refl
count_copied (suc zero) r = count_copies 1 (meant_core r)
count_copied (suc (suc k)) r = count_copies (suc (suc k)) (meant_core r)

-- a part that may be left out has two places more
count_optional : (r : core.CoreSere) → count (meant_core (core.or core.empty r)) ≡ count (meant_core r) + 2
count_optional r =
    let sum = count_or empty (meant_core r) in
    omega (arith, sum)

count_ranged : (r : core.CoreSere) (low more : ℕ) → count (meant_core (ranged low more r))
    ≡ copied_places low (count (meant_core r)) + more * (count (meant_core r) + 2)
count_ranged r low zero =
    let none = zero-mul (count (meant_core r) + 2) in
    let front = count_copied low r in
    omega (arith, none, front)
count_ranged r low (suc more) =
    count_sides (places_in (meant_core (copied low r))) (places_in (meant_core (copied (suc more) (core.or core.empty r))))
    ∙ ap (λ (n : ℕ). n + count (meant_core (copied (suc more) (core.or core.empty r)))) (count_copied low r)
    ∙ ap (λ (n : ℕ). copied_places low (count (meant_core r)) + n)
    (count_copied (suc more) (core.or core.empty r) ∙ ap (λ (n : ℕ). suc more * n) (count_optional r))

count_repeat : (r : core.CoreSere) (low : ℕ) (high : Option ℕ) →
    count (meant_core (counted_repeat low high r)) ≡ repeated_places low high (count (meant_core r))
count_repeat r low (Some high) = count_ranged r low (high - low)
count_repeat r zero None = count_star (meant_core r)
count_repeat r (suc low) None =
    count_sides (places_in (meant_core (copied (suc low) r))) (places_in (star (meant_core r)))
    ∙ ap (λ (n : ℕ). n + count (star (meant_core r))) (count_copied (suc low) r)
    ∙ ap (λ (n : ℕ). suc low * count (meant_core r) + n) (count_star (meant_core r))

count_padded : (r : CoreSere) → count (concat r sugar.anything) ≡ count r + 3
count_padded r = count_sides (places_in r) (places_in sugar.anything)

count_within : (r : CoreSere) → count (concat (concat sugar.anything r) sugar.anything) ≡ count r + 6
count_within r =
    let outer = count_padded (concat sugar.anything r) in
    let late = count_sides (places_in sugar.anything) (places_in r) in
    omega (arith, outer, late)

-- numbers of places in the same form
two_places : (f : ℕ → ℕ → ℕ) (a b p q : ℕ) → a ≡ p → b ≡ q → f a b ≡ f p q
two_places f a b p q e g = ap (λ (x : ℕ). f x b) e ∙ ap (λ (y : ℕ). f p y) g

count_meet : (r s : CoreSere) →
    count (or (both r (concat s sugar.anything)) (both (concat r sugar.anything) s))
    ≡ count r * (count s + 3) + (count r + 3) * count s + 1
count_meet r s =
    count_or (both r (concat s sugar.anything)) (both (concat r sugar.anything) s)
    ∙ two_places (λ (x y : ℕ). x + y + 1) (count (both r (concat s sugar.anything)))
    (count (both (concat r sugar.anything) s)) (count r * (count s + 3)) ((count r + 3) * count s)
    (count_pairs (places_in r) (places_in (concat s sugar.anything)) ∙ ap (λ (n : ℕ). count r * n) (count_padded s))
    (count_pairs (places_in (concat r sugar.anything)) (places_in s) ∙ ap (λ (n : ℕ). n * count s) (count_padded r))

pub counted_places : (r : sere.Sere) → count (meant_core (counted_as r)) ≡ places_of r
counted_places (sere.bool b) = refl
counted_places (sere.concat r s) =
    count_sides (places_in (meant_core (counted_as r))) (places_in (meant_core (counted_as s)))
    ∙ two_places (λ (x y : ℕ). x + y) (count (meant_core (counted_as r))) (count (meant_core (counted_as s))) (places_of r)
    (places_of s) (counted_places r) (counted_places s)
counted_places (sere.fuse r s) =
    count_sides (places_in (meant_core (counted_as r))) (places_in (meant_core (counted_as s)))
    ∙ two_places (λ (x y : ℕ). x + y) (count (meant_core (counted_as r))) (count (meant_core (counted_as s))) (places_of r)
    (places_of s) (counted_places r) (counted_places s)
counted_places (sere.or r s) =
    count_or (meant_core (counted_as r)) (meant_core (counted_as s))
    ∙ two_places (λ (x y : ℕ). x + y + 1) (count (meant_core (counted_as r))) (count (meant_core (counted_as s)))
    (places_of r) (places_of s) (counted_places r) (counted_places s)
counted_places (sere.both r s) =
    count_pairs (places_in (meant_core (counted_as r))) (places_in (meant_core (counted_as s)))
    ∙ two_places (λ (x y : ℕ). x * y) (count (meant_core (counted_as r))) (count (meant_core (counted_as s)))
    (places_of r) (places_of s) (counted_places r) (counted_places s)
counted_places (sere.meet r s) =
    count_meet (meant_core (counted_as r)) (meant_core (counted_as s))
    ∙ two_places (λ (x y : ℕ). x * (y + 3) + (x + 3) * y + 1) (count (meant_core (counted_as r)))
    (count (meant_core (counted_as s))) (places_of r) (places_of s) (counted_places r) (counted_places s)
counted_places (sere.within r s) =
    count_pairs (places_in (concat (concat sugar.anything (meant_core (counted_as r))) sugar.anything))
    (places_in (meant_core (counted_as s)))
    ∙ two_places (λ (x y : ℕ). x * y)
    (count (concat (concat sugar.anything (meant_core (counted_as r))) sugar.anything))
    (count (meant_core (counted_as s))) (places_of r + 6) (places_of s)
    (count_within (meant_core (counted_as r)) ∙ ap (λ (n : ℕ). n + 6) (counted_places r)) (counted_places s)
counted_places (sere.repeat r low high) =
    count_repeat (counted_as r) low high ∙ ap (λ (n : ℕ). repeated_places low high n) (counted_places r)
counted_places (sere.goto b low high) = count_repeat (counted.next_with b) low high
counted_places (sere.equal b low high) =
    count_sides (places_in (meant_core (counted_repeat low high (counted.next_with b))))
    (places_in (meant_core (counted.without b)))
    ∙ ap (λ (n : ℕ). n + 3) (count_repeat (counted.next_with b) low high)
