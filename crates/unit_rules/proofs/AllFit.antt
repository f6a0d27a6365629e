-- Where no rule is broken, the numbers of each item fit the trees.
use Rattle.std.proofs.Common.{◌≡◌, ℕ, zero, suc, List, [], ◌∷◌, map, ap, ◌∙◌, arith}
use Rattle.std.specs.List.{All, flat_map}
use Rattle.psl_grammar.specs.declared.items.RawItem.{RawItem}
use Rattle.psl_grammar.specs.UnitView.{item_of}
use Rattle.unit_rules.specs.Source.{Source}
use Rattle.unit_rules.specs.Sites.{item_sites}
use Rattle.unit_rules.specs.Known.{Known, nothing, known_after}
use Rattle.unit_rules.specs.Faults.{faults_in, unit_faults}
use Rattle.unit_rules.specs.Fitting.{ItemFits}
use Rattle.unit_rules.proofs.FirstFault.{flat_map-of_map}
use Rattle.unit_rules.proofs.FittingLemmas.{Clean, clean_front, clean_back, item_fits}

one_more : {X : Type 0} (P : X → Type 0) (x : X) (xs : List X) → P x → All P xs → All P (x ∷ xs)
one_more P x xs p h zero d lt = p
one_more P x xs p h (suc i) d lt = h i d (omega arith)

pub items_fit : (s : Source) (k : Known) (items : List RawItem)
    → Clean s k (flat_map (λ item. item_sites (item_of item)) items)
    → All (λ item. ItemFits s (item_of item)) items
items_fit s k [] h = λ i d lt. absurd (omega arith)
items_fit s k (item ∷ items) h =
    let rest = flat_map (λ i. item_sites (item_of i)) items in
    one_more (λ i. ItemFits s (item_of i)) item items
    (item_fits s k (item_of item) (clean_front s k (item_sites (item_of item)) rest h))
    (items_fit s (known_after s k (item_sites (item_of item))) items
    (clean_back s k (item_sites (item_of item)) rest h))

pub unit_fits : (s : Source) (items : List RawItem)
    → faults_in s nothing (flat_map (λ item. item_sites (item_of item)) items) ≡ []
    → All (λ item. ItemFits s (item_of item)) items
unit_fits s items none = items_fit s nothing items (record { narrow = tt; none = none })

pub rules_fit : (s : Source) (name : ℕ) (items : List RawItem)
    → unit_faults s (record { name = name; items = map item_of items }) ≡ []
    → All (λ item. ItemFits s (item_of item)) items
rules_fit s name items none =
    unit_fits s items (ap (λ sites. faults_in s nothing sites) (flat_map-of_map item_of item_sites items) ∙ none)
