use Rattle.std.proofs.Common.{◌<◌, arith}
use Rattle.psl_grammar.specs.View.{prop_of}
use Rattle.unit_reader.specs.inner.PropReaders.{aborts_from}
use Rattle.unit_reader.proofs.Loops.{halt, turn, stop}
use Rattle.unit_reader.proofs.operators.read_aborts.Goals as goal

pub returns-in-Err-clause-gives : goal.returns-in-Err-clause-gives
unfolding aborts_from
returns-in-Err-clause-gives c =
    halt c.in-Err.error c.aborts.invariant.0 c.aborts.invariant.2 c.aborts-test.ensures c.in-Err.ensures.gives

pub aborts-preserved : goal.aborts-preserved
aborts-preserved c =
    let further : c.aborts.to < c.in-Ok.after = c.in-Ok.ensures.some in (
      turn (prop_of c.in-Ok.whole, c.in-Ok.after) c.aborts.invariant.0 c.aborts.invariant.2 c.aborts-test.ensures
          c.in-Ok.ensures.gives further,
      omega arith,
      c.in-Ok.ensures.end,
    )

pub returns-clause-gives : goal.returns-clause-gives
unfolding aborts_from
returns-clause-gives c = stop c.aborts.invariant.0 c.aborts.invariant.2 c.aborts-test.ensures
