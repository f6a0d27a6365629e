use Rattle.std.proofs.Common.{All, sym, subst, arith}
use Rattle.vcd_replay.specs.inner.Walk.{AreShort}
use Rattle.vcd_replay.specs.inner.PortView.{ArePorts}
use Rattle.vcd_replay.proofs.Answered.{change_fits, short_ports, clock_fault, port_fault, trace_answers}
use Rattle.vcd_replay.proofs.sampling.sample_from.Goals as goal

pub trace_ports-requires-clause-bits : goal.trace_ports-requires-clause-bits
trace_ports-requires-clause-bits c = λ k change at same.
    let f = change_fits c.args.vars.now c.args.changes.now c.args.scope.now
    (record { name = c.args.clock.now; width = 1 }) c.in-Ok.clock c.requires.lawful c.in-Ok.ensures.answers k change
    at same in
    omega (arith, f.0, f.1)

pub trace_ports-requires-clause-short : goal.trace_ports-requires-clause-short
trace_ports-requires-clause-short c =
    subst (All (λ code. AreShort c.args.changes.now code)) (sym c.as_slice.ensures.value)
    (short_ports c.args.vars.now c.args.changes.now c.args.scope.now c.args.wanted.now c.in-Ok-ports.codes.items
    c.requires.lawful c.requires.narrow c.in-Ok-ports.ensures.answers)

pub returns-in-Err : goal.returns-in-Err
returns-in-Err c = record {
  answers = clock_fault (record {
    vars = c.args.vars.now;
    changes = c.args.changes.now;
    scope =
        c.args.scope.now;
    clock = c.args.clock.now;
    wanted = c.args.wanted.now;
    skip = c.args.skip;
  }) c.in-Err.error
      (c.has_scope.ensures.has c.if-not-has_scope.false) c.in-Err.ensures.answers;
}

pub returns-in-Err-ports : goal.returns-in-Err-ports
returns-in-Err-ports c = record {
  answers = port_fault (record {
    vars = c.args.vars.now;
    changes = c.args.changes.now;
    scope = c.args.scope.now;
    clock =
        c.args.clock.now;
    wanted = c.args.wanted.now;
    skip = c.args.skip;
  }) c.in-Err-ports.error c.in-Ok.clock
      (c.has_scope.ensures.has c.if-not-has_scope.false) c.in-Ok.ensures.answers c.in-Err-ports.ensures.answers;
}

pub returns-in-Ok-ports : goal.returns-in-Ok-ports
returns-in-Ok-ports c = record {
  answers = trace_answers (record {
    vars = c.args.vars.now;
    changes = c.args.changes.now;
    scope =
        c.args.scope.now;
    clock = c.args.clock.now;
    wanted = c.args.wanted.now;
    skip = c.args.skip;
  }) c.in-Ok.clock
      c.as_slice.result.now c.trace_ports.result
      c.requires.lawful c.in-Ok.ensures.answers
      (subst (ArePorts c.args.vars.now c.args.scope.now c.args.wanted.now) (sym c.as_slice.ensures.value)
      c.in-Ok-ports.ensures.answers) c.trace_ports.ensures.answers;
}
