use Rattle.std.proofs.Common.{◌≡◌, take}
use Rattle.std.specs.List.{flat_map}
use Rattle.psl_grammar.specs.UnitView.{item_of}
use Rattle.unit_rules.specs.Source.{source}
use Rattle.unit_rules.specs.Sites.{item_sites}
use Rattle.unit_rules.specs.inner.Judging.{visit_all}
use Rattle.unit_rules.specs.inner.WalkView.{state_of}
use Rattle.unit_rules.proofs.walking.walk_items.Given as goal

abbrev pub invariant-loop-item : goal.invariant-loop-item
invariant-loop-item l = state_of l.walk ≡ visit_all (source l.text l.tokens) (state_of l.initial.walk)
    (flat_map (λ item. item_sites (item_of item)) (take l.item-index l.items))
