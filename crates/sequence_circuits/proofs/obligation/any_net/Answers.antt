use Rattle.std.proofs.Common.{◌≡◌, ◌↔◌, ◌<◌, ℕ, sym, ◌∙◌, subst, arith}
use Rattle.circuit_core.specs.Run.{On}
use Rattle.sequence_circuits.specs.Guards.{numbers}
use Rattle.sequence_circuits.specs.inner.Nets.{stream_at}
use Rattle.sequence_circuits.proofs.Kept.{extends_trans}
use Rattle.sequence_circuits.proofs.Nets.{number_of, on_same, below_push}
use Rattle.sequence_circuits.proofs.obligation.any_net.Goals as goal

pub loop-place-init : goal.loop-place-init
loop-place-init c = record {
  kept = c.in_ok-any.ensures.kept;
  registers = c.in_ok-any.ensures.registers;
  net = c.in_ok-any.ensures.net;
  stream = λ inputs run h n within. (
    (λ on. absurd (on (c.in_ok-any.ensures.stream inputs run h n within))),
    (λ x. absurd (omega (arith, x.1))),
  );
}

pub loop-place-preserved : goal.loop-place-preserved
loop-place-preserved c =
    let i = c.loop-place.place in
    let nets = c.args.nets.now in
    record {
      kept = extends_trans _ _ _ c.loop-place.invariant.kept c.in_ok-any-2.ensures.kept;
      registers = c.in_ok-any-2.ensures.registers ∙ c.loop-place.invariant.registers;
      net = c.in_ok-any-2.ensures.net;
      stream = λ inputs run h n within.
          below_push i (λ s. On (stream_at run (numbers nets) s) n) _ _ _
          (c.loop-place.invariant.stream inputs run (c.in_ok-any-2.ensures.kept.runs inputs run h) n within)
          (c.in_ok-any-2.ensures.stream inputs run h n within)
          ((λ x. on_same run n _ _ (number_of nets i) x), (λ x. on_same run n _ _ (sym (number_of nets i)) x));
    }

pub returns-clause-stream : goal.returns-clause-stream
returns-clause-stream c inputs run h n within =
    let all : c.loop-place.place ≡ c.args.count = omega arith in
    subst (λ (i : ℕ). On (run c.loop-place.any.0) n
    ↔ ((s : ℕ) × (s < i) × On (stream_at run (numbers c.args.nets.now) s) n)) all
    (c.loop-place.invariant.stream inputs run h n within)
