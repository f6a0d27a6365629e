use Rattle.std.proofs.Common.{◌+◌, ◌*◌, ◌-◌, ◌≤◌, suc, length}
use Rattle.psl_grammar.specs.View.{expr_of}
use Rattle.unit_reader.specs.inner.Steps.{loop}
use Rattle.unit_reader.specs.inner.ExprReaders.{operand_in, joins, join_with, joined_with}
use Rattle.unit_reader.proofs.Loops.{Turns}
use Rattle.unit_reader.proofs.expressions.+expr.Given as goal

abbrev pub decreases-read_operand : goal.decreases-read_operand
decreases-read_operand l = l.room * 64 + 2

abbrev pub decreases-read_paren : goal.decreases-read_paren
decreases-read_paren l = l.room * 64 + 1

abbrev pub decreases-read_prefix : goal.decreases-read_prefix
decreases-read_prefix l = l.room * 64 + 1

abbrev pub decreases-read_levels : goal.decreases-read_levels
decreases-read_levels l = l.room * 64 + 4 * l.level + 5

abbrev pub decreases-read_joins : goal.decreases-read_joins
decreases-read_joins l = l.room * 64 + 4 * l.level + 4

abbrev pub decreases-read_joined : goal.decreases-read_joined
decreases-read_joined l = l.room * 64 + 4 * l.level + 6

abbrev pub decreases-read_choice : goal.decreases-read_choice
decreases-read_choice l = l.room * 64 + 60

abbrev pub decreases-read_branches : goal.decreases-read_branches
decreases-read_branches l = l.room * 64 + 59

abbrev pub invariant-read_joins-joins : goal.invariant-read_joins-joins
invariant-read_joins-joins l =
    Turns (length l.symbols) (joins l.symbols l.braced l.level)
    (join_with l.symbols (joined_with l.symbols (operand_in l.symbols l.room) l.braced (l.level - 1)))
    (loop (joins l.symbols l.braced l.level)
    (join_with l.symbols (joined_with l.symbols (operand_in l.symbols l.room) l.braced (l.level - 1)))
    (suc (length l.symbols)) (expr_of l.fn.first, l.fn.end)) (expr_of l.left, l.to)
    × (l.fn.end ≤ l.to) × (l.to ≤ length l.symbols)

abbrev pub decreases-read_joins-joins : goal.decreases-read_joins-joins
decreases-read_joins-joins l = length l.symbols - l.to

abbrev pub decreases-open_operand : goal.decreases-open_operand
decreases-open_operand l = l.room * 64

abbrev pub decreases-open_choice : goal.decreases-open_choice
decreases-open_choice l = l.room * 64

abbrev pub decreases-read_join : goal.decreases-read_join
decreases-read_join l = l.room * 64 + 4 * l.level + 3
