use Rattle.std.proofs.Common.{◌≡◌, ◌-◌, ◌≤◌, length}
use Rattle.std.specs.Prelude.{map}
use Rattle.psl_grammar.specs.UnitView.{item_of}
use Rattle.psl_grammar.specs.Units.{Known, symbols_in}
use Rattle.unit_reader.proofs.UnitReads.{Way}
use Rattle.unit_reader.proofs.units.read_items.Given as goal

abbrev pub invariant-items : goal.invariant-items
invariant-items l =
    ((known : Known) × (l.symbols.items ≡ symbols_in l.text known l.tokens)
    × Way l.text l.tokens l.fn.from known (map item_of l.items.items) l.to)
    × (l.to ≤ length l.tokens)

abbrev pub decreases-items : goal.decreases-items
decreases-items l = length l.tokens - l.to
