use Rattle.std.proofs.Common.{◌≡◌, ◌++◌, map}
use Rattle.psl_grammar.specs.UnitView.{item_of}
use Rattle.psl_model.specs.UnitView.{directive_of}
use Rattle.unit_rules.specs.Source.{source}
use Rattle.unit_rules.specs.Placed.{no_bodies, placed_items}
use Rattle.psl_units.specs.Unit.{directive_for}
use Rattle.psl_units.proofs.Directives.{told_from}
use Rattle.psl_units.proofs.resolving.build_directives.Given as goal

abbrev pub invariant-loop-upto : goal.invariant-loop-upto
invariant-loop-upto l =
    map directive_of l.directives.items
    ++ told_from (directive_for (source l.text l.tokens) l.signals.entries) (source l.text l.tokens) l.items l.upto
    ≡ map (directive_for (source l.text l.tokens) l.signals.entries)
    (placed_items (source l.text l.tokens) no_bodies (map item_of l.items))
