use Rattle.std.proofs.Common.{ℕ, ◌+◌, [], ◌∷◌, length, length-append, List, sym, ap, ◌∙◌, subst, arith}
use Rattle.circuit_core.specs.Growth.{opened}
use Rattle.sequence_circuits.specs.declared.states.State.{State}
use Rattle.sequence_circuits.specs.inner.Nets.{AreStates}
use Rattle.sequence_circuits.proofs.Kept.{extends_trans}
use Rattle.sequence_circuits.proofs.Registers.{states_push}
use Rattle.sequence_circuits.proofs.states.make_states.Goals as goal

pub loop-place-preserved : goal.loop-place-preserved
loop-place-preserved c =
    let m0 = c.args.net.now in
    let m1 = c.loop-place.net in
    let m2 = c.make_state.new.net in
    let base = length m0.registers in
    let states = c.loop-place.states.items in
    let fresh = c.in_ok-state.state in
    record {
      kept = extends_trans m0 m1 m2 c.loop-place.invariant.kept c.in_ok-state.ensures.kept;
      registers = (let longer = length-append m1.registers (opened 1 0 ∷ []) in
          let is = ap (λ rs. length rs) c.in_ok-state.ensures.registers in
          omega (arith, c.loop-place.invariant.registers));
      size = ap (λ (hs : List State). length hs) c.in_ok-push.ensures.items ∙ length-append states (fresh ∷ [])
          ∙ ap (λ (k : ℕ). k + 1) c.loop-place.invariant.size;
      states = subst (AreStates m2 base c.args.start.0 c.args.uncleared.0) (sym c.in_ok-push.ensures.items)
          (states_push m1 m2 base c.args.start.0 c.args.uncleared.0 c.loop-place.place states fresh
          c.loop-place.invariant.states c.in_ok-state.ensures.kept c.loop-place.invariant.registers
          c.loop-place.invariant.size c.in_ok-state.ensures.number c.in_ok-state.ensures.net_of
          c.in_ok-state.ensures.register c.in_ok-state.ensures.net c.in_ok-state.ensures.stream);
    }
