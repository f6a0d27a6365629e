use Rattle.std.proofs.Common.{◌≡◌, ◌<◌, ◌-◌, suc, ap, ◌∙◌, length, arith}
use Rattle.psl_grammar.specs.View.{sere_of}
use Rattle.unit_reader.specs.inner.ReadViews.{sere_read}
use Rattle.unit_reader.specs.inner.Steps.{◌>>=◌, loop}
use Rattle.unit_reader.specs.inner.SereReaders.{sere_joins, sere_join_with, levels_above, elem_in}
use Rattle.unit_reader.proofs.Loops.{gives_as, halt, turn, stop}
use Rattle.unit_reader.proofs.Levels.{above_step}
use Rattle.unit_reader.proofs.sequences.+sere.Goals as goal

pub read_sere_joins-returns-in-Err-clause-gives : goal.read_sere_joins-returns-in-Err-clause-gives
read_sere_joins-returns-in-Err-clause-gives t c =
    halt c.in-Err.error c.joins.invariant.0 c.joins.invariant.2 c.joins-test.ensures c.in-Err.ensures.gives

pub read_sere_joins-joins-preserved : goal.read_sere_joins-joins-preserved
read_sere_joins-joins-preserved t c =
    let further : c.joins.to < c.in-Ok.after = c.in-Ok.ensures.some in (
      turn (sere_of c.in-Ok.whole, c.in-Ok.after) c.joins.invariant.0 c.joins.invariant.2 c.joins-test.ensures
          c.in-Ok.ensures.gives further,
      omega arith,
      c.in-Ok.ensures.end,
    )

pub read_sere_joins-returns-clause-gives : goal.read_sere_joins-returns-clause-gives
read_sere_joins-returns-clause-gives t c = stop c.joins.invariant.0 c.joins.invariant.2 c.joins-test.ensures

pub read_sere-returns-clause-gives : goal.read_sere-returns-clause-gives
read_sere-returns-clause-gives t c =
    let lower : c.args.above ≡ suc (c.args.above - 1) = omega arith in
    let first = above_step c.args.symbols.now (elem_in c.args.symbols.now c.args.room) c.args.above (c.args.above - 1)
    lower
    c.args.from in
    gives_as sere_read c.read_sere_joins.result _ _
    (first ∙ ap (λ o. o >>= loop (sere_joins c.args.symbols.now (suc c.args.above))
    (sere_join_with c.args.symbols.now (levels_above c.args.symbols.now (elem_in c.args.symbols.now c.args.room)
    (c.args.above - 1)))
    (suc (length c.args.symbols.now))) c.in_ok-left.ensures.gives)
    c.read_sere_joins.ensures.gives
