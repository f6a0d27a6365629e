use Rattle.std.proofs.Common.{◌≡◌, ◌++◌, drop, map}
use Rattle.psl_grammar.specs.UnitView.{item_of}
use Rattle.unit_rules.specs.Source.{source}
use Rattle.unit_rules.specs.inner.Reckoned.{reckoned_items, no_numbers}
use Rattle.unit_rules.specs.inner.MeasuredView.{numbers_of}
use Rattle.unit_rules.proofs.measures.measure_directives.Given as goal

abbrev pub invariant-loop-item : goal.invariant-loop-item
invariant-loop-item l =
    l.directives.items ++ reckoned_items (source l.text l.tokens) (numbers_of l.measured)
    (map item_of (drop l.item-index l.items))
    ≡ reckoned_items (source l.text l.tokens) no_numbers (map item_of l.items)
