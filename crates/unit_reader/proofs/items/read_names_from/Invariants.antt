use Rattle.std.proofs.Common.{◌-◌, ◌≤◌, suc, length}
use Rattle.unit_reader.specs.inner.Steps.{loop}
use Rattle.unit_reader.specs.inner.ItemReaders.{comma_at, name_after}
use Rattle.unit_reader.proofs.Loops.{Turns}
use Rattle.unit_reader.proofs.items.read_names_from.Given as goal

abbrev pub invariant-names : goal.invariant-names
invariant-names l =
    Turns (length l.symbols) (comma_at l.symbols) (name_after l.symbols)
    (loop (comma_at l.symbols) (name_after l.symbols) (suc (length l.symbols)) (l.fn.first.items, l.fn.end))
    (l.names.items, l.to)
    × (l.fn.end ≤ l.to) × (l.to ≤ length l.symbols)

abbrev pub decreases-names : goal.decreases-names
decreases-names l = length l.symbols - l.to
