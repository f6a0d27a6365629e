-- The limits of a unit are those of the measures of its directives, of which there are no more than items.
use Rattle.std.proofs.Common.{◌≡◌, ◌≤◌, List, [], ◌∷◌, length, ap, ◌∙◌, arith}
use Rattle.std.proofs.Common.{length-append, lit≤}
use Rattle.psl_grammar.specs.RawUnit.{RawItem, clock, wire, sequence, property, assert}
use Rattle.unit_rules.specs.declared.measures.Measure.{Measure}
use Rattle.unit_rules.specs.Source.{Source}
use Rattle.unit_rules.specs.Placed.{no_bodies, placed_items}
use Rattle.unit_rules.specs.inner.Reckoned.{Numbers, no_numbers, numbers_after, reckoned_item, reckoned_items}
use Rattle.unit_rules.specs.inner.MeasureLimits.{tall_among, large_among}
use Rattle.unit_rules.specs.Limits.{first_tall, first_large, or_else}
use Rattle.unit_rules.proofs.LimitLemmas.{unit_measures, tall_measures, large_measures}

pub limits_of_measures : (s : Source) (items : List RawItem) (ms : List Measure) → ms
    ≡ reckoned_items s no_numbers items
    → or_else (tall_among 1 ms) (large_among 1 0 ms)
    ≡ or_else (first_tall 1 (placed_items s no_bodies items)) (first_large 1 0 (placed_items s no_bodies items))
limits_of_measures s items ms p =
    let ds = placed_items s no_bodies items in
    ap (λ xs. or_else (tall_among 1 xs) (large_among 1 0 xs)) (p ∙ unit_measures s items)
    ∙ (λ i. or_else (tall_measures 1 ds i) (large_measures 1 0 ds i))

one_at_most : (s : Source) (numbers : Numbers) (item : RawItem) → length (reckoned_item s numbers item) ≤ 1
one_at_most s numbers (clock token) = lit≤ tt
one_at_most s numbers (wire range names) = lit≤ tt
one_at_most s numbers (sequence token r) = lit≤ tt
one_at_most s numbers (property token f) = lit≤ tt
one_at_most s numbers (assert word tag f report) = lit≤ tt

pub few_measures : (s : Source) (numbers : Numbers) (items : List RawItem)
    → length (reckoned_items s numbers items) ≤ length items
few_measures s numbers [] = lit≤ tt
few_measures s numbers (item ∷ items) =
    let one = one_at_most s numbers item in
    let rest = few_measures s (numbers_after s numbers item) items in
    omega (arith, length-append (reckoned_item s numbers item) (reckoned_items s (numbers_after s numbers item) items))
