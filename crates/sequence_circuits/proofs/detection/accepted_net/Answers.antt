use Rattle.std.proofs.Common.{◌↔◌, ◌<◌, ℕ, IsTrue, false, get_or, sym, ◌∙◌, subst, arith}
use Rattle.circuit_core.specs.Run.{On}
use Rattle.sequence_circuits.specs.Guards.{numbers}
use Rattle.sequence_circuits.specs.inner.Nets.{stream_at}
use Rattle.sequence_circuits.proofs.Kept.{extends_trans}
use Rattle.sequence_circuits.proofs.Nets.{number_of, on_same, below_push}
use Rattle.sequence_circuits.proofs.detection.accepted_net.Goals as goal

pub loop-state-init : goal.loop-state-init
loop-state-init c = record {
  kept = c.in_ok-found.ensures.kept;
  registers = c.in_ok-found.ensures.registers;
  net = c.in_ok-found.ensures.net;
  stream = λ inputs run h n within. (
    (λ on. absurd (on (c.in_ok-found.ensures.stream inputs run h n within))),
    (λ x. absurd (omega (arith, x.1))),
  );
}

pub loop-state-preserved : goal.loop-state-preserved
loop-state-preserved c = record {
  kept = extends_trans _ _ _ c.loop-state.invariant.kept c.in_ok-found-2.ensures.kept;
  registers = c.in_ok-found-2.ensures.registers ∙ c.loop-state.invariant.registers;
  net = c.in_ok-found-2.ensures.net;
  stream = λ inputs run h n within.
      let arrivals = c.args.arrivals.now in
      let state = c.loop-state.state in
      below_push state
      (λ s. IsTrue (get_or c.args.table.now.accepting s false) × On (stream_at run (numbers arrivals) s) n) _ _ _
      (c.loop-state.invariant.stream inputs run (c.in_ok-found-2.ensures.kept.runs inputs run h) n within)
      (c.in_ok-found-2.ensures.stream inputs run h n within) (
        (λ p. (subst IsTrue c.accepts.ensures p.0, on_same run n _ _ (number_of arrivals state) p.1)),
        (λ p. (subst IsTrue (sym c.accepts.ensures) p.0, on_same run n _ _ (sym (number_of arrivals state)) p.1)),
      );
}

pub returns-clause-stream : goal.returns-clause-stream
returns-clause-stream c inputs run h n within =
    subst (λ (i : ℕ). On (run c.loop-state.found.0) n
    ↔ ((s : ℕ) × (s < i) × (IsTrue (get_or c.args.table.now.accepting s false)
    × On (stream_at run (numbers c.args.arrivals.now) s) n))) (omega arith)
    (c.loop-state.invariant.stream inputs run h n within)
