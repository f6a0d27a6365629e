use Rattle.std.proofs.Common.{◌≡◌, ◌<◌, Some, drop, length, refl, sym, ◌∙◌, ap, subst, arith}
use Rattle.std.specs.Prelude.{slice_get}
use Rattle.std.proofs.lemmas.Option.{slice_get_read}
use Rattle.psl_model.specs.declared.names.Signal.{Signal}
use Rattle.vcd_replay.specs.inner.WalkView.{AreSamples}
use Rattle.vcd_replay.proofs.Skipped.{fronts_of, traced, blank_port, blank_of}
use Rattle.vcd_replay.proofs.sampling.trace_ports.Goals as goal

pub samples_before-requires-clause-fronts : goal.samples_before-requires-clause-fronts
samples_before-requires-clause-fronts c =
    fronts_of c.args.changes.now c.args.clock c.args.skip c.in-Ok.all.items c.split_at.result.1.now
    c.in-Ok.ensures.edges
    (c.split_at.ensures.back ∙ ap (drop c.args.skip) c.as_slice.ensures.value)

pub returns-in-Ok-Known : goal.returns-in-Ok-Known
returns-in-Ok-Known c = record {
  answers = traced c.args.changes.now c.args.clock c.args.codes.now c.args.skip c.in-Ok.all.items
      c.split_at.result.1.now c.in-Ok-Known.values.items c.in-Ok.ensures.edges
      (c.split_at.ensures.back ∙ ap (drop c.args.skip) c.as_slice.ensures.value) (omega arith)
      (subst (AreSamples c.args.changes.now c.split_at.result.1.now c.args.codes.now) c.in-Ok-Known.field-0-is
      c.in-Ok-Known.ensures.samples);
}

pub bounds-wanted-port : goal.bounds-wanted-port
bounds-wanted-port c =
    let low : c.in-Ok-Unknown.port < length c.args.codes.now =
    blank_port c.args.changes.now c.args.codes.now c.split_at.result.1.now c.in-Ok-Unknown.cycle
    c.in-Ok-Unknown.port (subst (AreSamples c.args.changes.now c.split_at.result.1.now c.args.codes.now)
    c.in-Ok-Unknown.field-0-is c.in-Ok-Unknown.ensures.samples) in
    omega (arith, c.requires.wide)

pub returns : goal.returns
returns c =
    let signal : Signal = c.index-wanted-port.result in
    let low : c.in-Ok-Unknown.port < length c.args.codes.now =
    blank_port c.args.changes.now c.args.codes.now c.split_at.result.1.now c.in-Ok-Unknown.cycle
    c.in-Ok-Unknown.port (subst (AreSamples c.args.changes.now c.split_at.result.1.now c.args.codes.now)
    c.in-Ok-Unknown.field-0-is c.in-Ok-Unknown.ensures.samples) in
    let here : slice_get c.args.wanted.now c.in-Ok-Unknown.port ≡ Some signal =
    slice_get_read c.args.wanted.now (length c.args.wanted.now) c.in-Ok-Unknown.port signal refl
    (omega (arith, c.requires.wide)) c.index-wanted-port.is in
    record {
      answers = blank_of c.args.changes.now c.args.clock c.args.codes.now c.args.wanted.now c.args.skip
          c.in-Ok-Unknown.cycle c.in-Ok-Unknown.port c.in-Ok-copy.name signal c.in-Ok.all.items c.split_at.result.1.now
          c.in-Ok.ensures.edges
          (c.split_at.ensures.back ∙ ap (drop c.args.skip) c.as_slice.ensures.value) here
          (ap (λ (z : Signal). z.name) c.index-wanted-port.is ∙ sym c.in-Ok-copy.ensures.equal)
          (subst (AreSamples c.args.changes.now c.split_at.result.1.now c.args.codes.now) c.in-Ok-Unknown.field-0-is
          c.in-Ok-Unknown.ensures.samples);
    }
