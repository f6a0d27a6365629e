use Rattle.std.proofs.Common.{◌+◌, ◌*◌, ◌-◌, ◌≤◌, suc, length}
use Rattle.psl_grammar.specs.View.{sere_of}
use Rattle.unit_reader.specs.inner.Steps.{loop}
use Rattle.unit_reader.specs.inner.SereReaders.{sere_joins, sere_join_with, levels_above, elem_in}
use Rattle.unit_reader.proofs.Loops.{Turns}
use Rattle.unit_reader.proofs.sequences.+sere.Given as goal

abbrev pub decreases-open_cat : goal.decreases-open_cat
decreases-open_cat l = l.room * 64

abbrev pub decreases-read_braces : goal.decreases-read_braces
decreases-read_braces l = l.room * 64 + 1

abbrev pub decreases-read_base : goal.decreases-read_base
decreases-read_base l = l.room * 64 + 2

abbrev pub decreases-read_tight : goal.decreases-read_tight
decreases-read_tight l = l.room * 64 + 3

abbrev pub decreases-read_elem : goal.decreases-read_elem
decreases-read_elem l = l.room * 64 + 4

abbrev pub decreases-read_sere : goal.decreases-read_sere
decreases-read_sere l = l.room * 64 + 4 * l.above + 5

abbrev pub decreases-read_sere_joins : goal.decreases-read_sere_joins
decreases-read_sere_joins l = l.room * 64 + 4 * l.above + 4

abbrev pub decreases-read_sere_join : goal.decreases-read_sere_join
decreases-read_sere_join l = l.room * 64 + 4 * l.above + 3

abbrev pub invariant-read_sere_joins-joins : goal.invariant-read_sere_joins-joins
invariant-read_sere_joins-joins l =
    Turns (length l.symbols) (sere_joins l.symbols (suc l.above))
    (sere_join_with l.symbols (levels_above l.symbols (elem_in l.symbols l.room) (l.above - 1)))
    (loop (sere_joins l.symbols (suc l.above)) (sere_join_with l.symbols
    (levels_above l.symbols (elem_in l.symbols l.room) (l.above - 1))) (suc (length l.symbols))
    (sere_of l.fn.first, l.fn.end))
    (sere_of l.left, l.to)
    × (l.fn.end ≤ l.to) × (l.to ≤ length l.symbols)

abbrev pub decreases-read_sere_joins-joins : goal.decreases-read_sere_joins-joins
decreases-read_sere_joins-joins l = length l.symbols - l.to
