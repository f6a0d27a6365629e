use Rattle.std.proofs.Common.{◌≡◌, ◌<◌, ◌-◌, suc, ap, ◌∙◌, length, arith}
use Rattle.psl_grammar.specs.View.{expr_of}
use Rattle.unit_reader.specs.inner.ReadViews.{expr_read}
use Rattle.unit_reader.specs.inner.Steps.{◌>>=◌, loop}
use Rattle.unit_reader.specs.inner.ExprReaders.{operand_in, joins, join_with, joined_with}
use Rattle.unit_reader.proofs.Loops.{gives_as, halt, turn, stop}
use Rattle.unit_reader.proofs.Levels.{level_step}
use Rattle.unit_reader.proofs.expressions.+expr.Goals as goal

pub read_joins-returns-in-Err-clause-gives : goal.read_joins-returns-in-Err-clause-gives
read_joins-returns-in-Err-clause-gives t c =
    halt c.in-Err.error c.joins.invariant.0 c.joins.invariant.2 c.joins-test.ensures c.in-Err.ensures.gives

pub read_joins-joins-preserved : goal.read_joins-joins-preserved
read_joins-joins-preserved t c =
    let further : c.joins.to < c.in-Ok.after = c.in-Ok.ensures.some in (
      turn (expr_of c.in-Ok.whole, c.in-Ok.after) c.joins.invariant.0 c.joins.invariant.2 c.joins-test.ensures
          c.in-Ok.ensures.gives further,
      omega arith,
      c.in-Ok.ensures.end,
    )

pub read_joins-returns-clause-gives : goal.read_joins-returns-clause-gives
read_joins-returns-clause-gives t c = stop c.joins.invariant.0 c.joins.invariant.2 c.joins-test.ensures

pub read_levels-returns-clause-gives : goal.read_levels-returns-clause-gives
read_levels-returns-clause-gives t c =
    let lower : c.args.level ≡ suc (c.args.level - 1) = omega arith in
    let first = level_step c.args.symbols.now (operand_in c.args.symbols.now c.args.room) c.args.braced
    c.args.level (c.args.level - 1) lower (expr_of c.args.operand, c.args.end) in
    gives_as expr_read c.read_joins.result _ _
    (first ∙ ap (λ o. o >>= loop (joins c.args.symbols.now c.args.braced c.args.level)
    (join_with c.args.symbols.now (joined_with c.args.symbols.now (operand_in c.args.symbols.now c.args.room)
    c.args.braced (c.args.level - 1)))
    (suc (length c.args.symbols.now))) c.in_ok-left.ensures.gives)
    c.read_joins.ensures.gives
