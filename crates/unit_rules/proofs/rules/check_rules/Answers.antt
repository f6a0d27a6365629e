use Rattle.std.proofs.Common.{◌≡◌, Result, Ok, Err, MatchResult, List, [], map, inr, ap, sym, ◌∙◌}
use Rattle.std.specs.List.{flat_map}
use Rattle.psl_grammar.specs.declared.items.RawItem.{RawItem}
use Rattle.psl_grammar.specs.UnitView.{item_of}
use Rattle.unit_rules.specs.declared.errors.UnitError.{UnitError}
use Rattle.unit_rules.specs.declared.tables.Tables.{Tables}
use Rattle.unit_rules.specs.Source.{Source, source}
use Rattle.unit_rules.specs.Sites.{item_sites}
use Rattle.unit_rules.specs.Known.{nothing, known_after}
use Rattle.unit_rules.specs.Faults.{faults_in}
use Rattle.unit_rules.specs.inner.TablesView.{known_of}
use Rattle.unit_rules.specs.inner.Judging.{IsFirst, State, going, stopped, visit_all}
use Rattle.unit_rules.proofs.FirstFault.{went_on, stopped_first, flat_map-of_map}
use Rattle.unit_rules.proofs.rules.check_rules.Goals as goal

finished : (s : Source) (items : List RawItem) (r : Result Tables UnitError) (st : State)
    → st ≡ visit_all s (going nothing) (flat_map (λ item. item_sites (item_of item)) items)
    → MatchResult r (λ t. st ≡ going (known_of t)) (λ f. st ≡ stopped f)
    → MatchResult r
    (λ t. (faults_in s nothing (flat_map item_sites (map item_of items)) ≡ [])
    × (known_of t ≡ known_after s nothing (flat_map item_sites (map item_of items))))
    (λ f. IsFirst f (faults_in s nothing (flat_map item_sites (map item_of items))))
finished s items (Ok t) st p q =
    went_on s nothing (known_of t) (flat_map item_sites (map item_of items))
    (sym q ∙ (p ∙ ap (λ xs. visit_all s (going nothing) xs) (flat_map-of_map item_of item_sites items)))
finished s items (Err f) st p q =
    inr (stopped_first s nothing f (flat_map item_sites (map item_of items))
    (sym q ∙ (p ∙ ap (λ xs. visit_all s (going nothing) xs) (flat_map-of_map item_of item_sites items))))

pub returns-in-Ok : goal.returns-in-Ok
returns-in-Ok c =
    finished (source c.args.text.now c.args.tokens.now) c.args.raw.now.items.items c.finish.result _
    (c.in-Ok.ensures
    ∙ (ap (λ st. visit_all (source c.args.text.now c.args.tokens.now) st
    (flat_map (λ item. item_sites (item_of item)) c.as_slice.result.now)) c.new-walk.ensures
    ∙ ap (λ items. visit_all (source c.args.text.now c.args.tokens.now) (going nothing)
    (flat_map (λ item. item_sites (item_of item)) items)) c.as_slice.ensures.value))
    c.finish.ensures
