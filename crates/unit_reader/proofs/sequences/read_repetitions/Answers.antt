use Rattle.std.proofs.Common.{◌<◌, arith}
use Rattle.psl_grammar.specs.View.{sere_of}
use Rattle.unit_reader.specs.inner.SereReaders.{times_from}
use Rattle.unit_reader.proofs.Loops.{halt, turn, stop}
use Rattle.unit_reader.proofs.sequences.read_repetitions.Goals as goal

pub returns-in-Err-clause-gives : goal.returns-in-Err-clause-gives
unfolding times_from
returns-in-Err-clause-gives c =
    halt c.in-Err.error c.times.invariant.0 c.times.invariant.2 c.times-test.ensures c.in-Err.ensures.gives

pub times-preserved : goal.times-preserved
times-preserved c =
    let further : c.times.to < c.in-Ok.after = c.in-Ok.ensures.some in (
      turn (sere_of c.in-Ok.whole, c.in-Ok.after) c.times.invariant.0 c.times.invariant.2 c.times-test.ensures
          c.in-Ok.ensures.gives further,
      omega arith,
      c.in-Ok.ensures.end,
    )

pub returns-clause-gives : goal.returns-clause-gives
unfolding times_from
returns-clause-gives c = stop c.times.invariant.0 c.times.invariant.2 c.times-test.ensures
