use Rattle.std.proofs.Common.{◌≡◌, ◌+◌, ℕ, List, Some, Ok, Err, length, refl, sym, subst, arith}
use Rattle.std.specs.Prelude.{slice_get}
use Rattle.std.proofs.lemmas.Option.{slice_get_read}
use Rattle.psl_model.specs.declared.names.Signal.{Signal}
use Rattle.vcd_replay.specs.inner.PortView.{AnswersPort}
use Rattle.vcd_replay.proofs.PortLists.{ArePortsSoFar, ports_grow, fault_is_first}
use Rattle.vcd_replay.proofs.ports.ports.Goals as goal

pub returns-in-Err : goal.returns-in-Err
returns-in-Err c =
    let signals = c.args.signals.now in
    let k = c.loop-signal.signal-index in
    let signal : Signal = c.signal-item.result in
    let here : slice_get signals k ≡ Some signal =
    slice_get_read signals (length signals) k signal refl (omega arith) c.signal-item.is in
    let fault : AnswersPort c.args.vars.now c.args.scope.now signal (Err c.in-Err.error) =
    subst (λ (name : List ℕ). AnswersPort c.args.vars.now c.args.scope.now
    (record { name = name; width = signal.width }) (Err c.in-Err.error)) c.bytes.ensures.all_bytes
    c.in-Err.ensures.answers in
    record {
      answers = fault_is_first c.args.vars.now c.args.scope.now signals k c.loop-signal.codes.items signal
          c.in-Err.error c.loop-signal.invariant here fault;
    }

pub loop-signal-preserved : goal.loop-signal-preserved
loop-signal-preserved c =
    let signals = c.args.signals.now in
    let k = c.loop-signal.signal-index in
    let signal : Signal = c.signal-item.result in
    let here : slice_get signals k ≡ Some signal =
    slice_get_read signals (length signals) k signal refl (omega arith) c.signal-item.is in
    let port : AnswersPort c.args.vars.now c.args.scope.now signal (Ok c.in-Ok.code) =
    subst (λ (name : List ℕ). AnswersPort c.args.vars.now c.args.scope.now
    (record { name = name; width = signal.width }) (Ok c.in-Ok.code)) c.bytes.ensures.all_bytes
    c.in-Ok.ensures.answers in
    subst (ArePortsSoFar c.args.vars.now c.args.scope.now signals (k + 1)) (sym c.in-Ok-push.ensures.items)
    (ports_grow c.args.vars.now c.args.scope.now signals k c.in-Ok.code c.loop-signal.codes.items signal
    c.loop-signal.invariant here port)
