use Rattle.std.proofs.Common.{◌<◌, arith}
use Rattle.unit_reader.proofs.Loops.{halt, turn, stop}
use Rattle.unit_reader.proofs.items.read_names_from.Goals as goal

pub returns-in-Err-clause-gives : goal.returns-in-Err-clause-gives
returns-in-Err-clause-gives c =
    halt c.in-Err.error c.names.invariant.0 c.names.invariant.2 c.names-test.ensures c.in-Err.ensures.gives

pub names-preserved : goal.names-preserved
names-preserved c =
    let further : c.names.to < c.in-Ok.after = c.in-Ok.ensures.some in (
      turn (c.in-Ok.whole.items, c.in-Ok.after) c.names.invariant.0 c.names.invariant.2 c.names-test.ensures
          c.in-Ok.ensures.gives further,
      omega arith,
      c.in-Ok.ensures.end,
    )

pub returns-clause-gives : goal.returns-clause-gives
returns-clause-gives c = stop c.names.invariant.0 c.names.invariant.2 c.names-test.ensures
