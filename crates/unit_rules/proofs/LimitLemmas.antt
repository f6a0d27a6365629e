-- The limits over measures are those over directives with names put in place.
use Rattle.std.proofs.Common.{◌≡◌, ℕ, ◌+◌, ◌≤◌, min, nat_lt, Bool, true, false, cond, Some, List, [], ◌∷◌}
use Rattle.std.proofs.Common.{◌++◌, map, refl, ap, sym, ◌∙◌, arith, ◌-◌, lit≤}
use Rattle.std.proofs.lemmas.Bool.Decides.{nat_tests}
use Rattle.psl_grammar.specs.RawUnit.{RawItem, clock, wire, sequence, property, assert}
use Rattle.unit_rules.specs.declared.errors.UnitError.TheVariants.{TooTall, TooLarge}
use Rattle.unit_rules.specs.declared.measures.Measure.{Measure}
use Rattle.unit_rules.specs.Source.{Source}
use Rattle.unit_rules.specs.Placed.{Bodies, Placed, no_bodies, bodies_after, placed_item, placed_items}
use Rattle.unit_rules.specs.Measures.{most, prop_depth, prop_nodes}
use Rattle.unit_rules.specs.inner.Reckoned.{prop_measure, Numbers, no_numbers, numbers_after, reckoned_item}
use Rattle.unit_rules.specs.inner.Reckoned.{reckoned_items}
use Rattle.unit_rules.specs.Limits.{depth_limit, node_limit}
use Rattle.unit_rules.specs.inner.MeasureLimits.{tall_among, large_among}
use Rattle.unit_rules.specs.Limits.{first_tall, first_large}
use Rattle.unit_rules.proofs.Reckoning.{AreNumbersOf, prop_reckoned, item_reckoned}

abbrev pub placed_measure : Placed → Measure
placed_measure d = prop_measure d.body

item_measures : (s : Source) (bodies : Bodies) (numbers : Numbers) → AreNumbersOf bodies numbers → (item : RawItem)
    → reckoned_item s numbers item ≡ map placed_measure (placed_item s bodies item)
item_measures s bodies numbers h (clock token) = refl
item_measures s bodies numbers h (wire range names) = refl
item_measures s bodies numbers h (sequence token r) = refl
item_measures s bodies numbers h (property token f) = refl
item_measures s bodies numbers h (assert word tag f report) = ap (λ m. m ∷ []) (prop_reckoned s bodies numbers h f)

map-joined : {X Y : Type 0} (f : X → Y) (xs ys : List X) → map f (xs ++ ys) ≡ map f xs ++ map f ys
map-joined f [] ys = refl
map-joined f (x ∷ xs) ys = ap (λ rest. f x ∷ rest) (map-joined f xs ys)

pub items_measures : (s : Source) (bodies : Bodies) (numbers : Numbers) → AreNumbersOf bodies numbers
    → (items : List RawItem)
    → reckoned_items s numbers items ≡ map placed_measure (placed_items s bodies items)
items_measures s bodies numbers h [] = refl
items_measures s bodies numbers h (item ∷ items) =
    (λ i. item_measures s bodies numbers h item i
    ++ items_measures s (bodies_after s bodies item) (numbers_after s numbers item)
    (item_reckoned s bodies numbers h item) items i)
    ∙ sym (map-joined placed_measure (placed_item s bodies item) (placed_items s (bodies_after s bodies item) items))

pub unit_measures : (s : Source) (items : List RawItem) → reckoned_items s no_numbers items
    ≡ map placed_measure (placed_items s no_bodies items)
unit_measures s items = items_measures s no_bodies no_numbers (record { sequences = refl; properties = refl }) items

capped_test : (limit m n : ℕ) → limit ≤ m → nat_lt limit (min n (m + 1)) ≡ nat_lt limit n
capped_test limit m n h = grind (arith, nat_tests)

pub tall_measures : (number : ℕ) (ds : List Placed) → tall_among number (map placed_measure ds) ≡ first_tall number ds
tall_measures number [] = refl
tall_measures number (d ∷ ds) =
    ap (λ b. cond b (Some (TooTall number (min (prop_depth d.body) most)))
    (tall_among (number + 1) (map placed_measure ds)))
    (capped_test depth_limit (most - 1) (prop_depth d.body) (lit≤ tt))
    ∙ ap (λ rest. cond (nat_lt depth_limit (prop_depth d.body)) (Some (TooTall number (min (prop_depth d.body) most)))
    rest) (tall_measures (number + 1) ds)

capped_sum : (m a b : ℕ) → min (a + min b m) m ≡ min (a + b) m
capped_sum m a b = omega arith

capped_sum_test : (limit m a b : ℕ) → limit ≤ m → nat_lt limit (a + min b (m + 1)) ≡ nat_lt limit (a + b)
capped_sum_test limit m a b h = grind (arith, nat_tests)

small_sum : (limit m a b : ℕ) → limit ≤ m → nat_lt limit (a + b) ≡ false → a + min b m ≡ a + b
small_sum limit m a b h p = grind (arith, nat_tests)

pub large_measures : (number nodes : ℕ) (ds : List Placed) → large_among number nodes (map placed_measure ds)
    ≡ first_large number nodes ds
large_measures number nodes [] = refl
large_measures number nodes (d ∷ ds) =
    ap (λ b. cond b (Some (TooLarge number (min (nodes + min (prop_nodes d.body) most) most)))
    (large_among (number + 1) (nodes + min (prop_nodes d.body) most) (map placed_measure ds)))
    (capped_sum_test node_limit (most - 1) nodes (prop_nodes d.body) (lit≤ tt))
    ∙ by (nat_lt node_limit (nodes + prop_nodes d.body)) refl (λ n. large_measures (number + 1) n ds)
  where
    by : (b : Bool) → nat_lt node_limit (nodes + prop_nodes d.body) ≡ b
        → ((n : ℕ) → large_among (number + 1) n (map placed_measure ds) ≡ first_large (number + 1) n ds)
        → cond b (Some (TooLarge number (min (nodes + min (prop_nodes d.body) most) most)))
        (large_among (number + 1) (nodes + min (prop_nodes d.body) most) (map placed_measure ds))
        ≡ cond b (Some (TooLarge number (min (nodes + prop_nodes d.body) most)))
        (first_large (number + 1) (nodes + prop_nodes d.body) ds)
    by true p rest = ap (λ n. Some (TooLarge number n)) (capped_sum most nodes (prop_nodes d.body))
    by false p rest =
        ap (λ n. large_among (number + 1) n (map placed_measure ds))
        (small_sum node_limit most nodes (prop_nodes d.body) (lit≤ tt) p)
        ∙ rest (nodes + prop_nodes d.body)
