use Rattle.std.proofs.Common.{◌≡◌, ◌↔◌, ◌⊎◌, ◌<◌, ℕ, length, get_or, sym, ◌∙◌, subst, arith}
use Rattle.circuit_core.specs.Run.{On}
use Rattle.sequence_circuits.proofs.Kept.{extends_trans}
use Rattle.sequence_circuits.specs.Guards.{numbers}
use Rattle.sequence_circuits.specs.inner.Nets.{stream_at}
use Rattle.sequence_circuits.proofs.moves.take_moves.Goals as goal
use Rattle.sequence_circuits.specs.inner.Moves.{Targets}
use Rattle.first_failure.specs.declared.automaton.Next.TheVariants.{Fail}
use Rattle.sequence_circuits.proofs.Nets.{number_of, on_same}
use Rattle.sequence_circuits.proofs.Doubling.{below_more}

pub take_move-requires-clause-target : goal.take_move-requires-clause-target
take_move-requires-clause-target c s h = let l = c.requires.targets c.loop-place.place s c.loop-place-test.true h in
    omega (arith, c.loop-place.invariant.size)

pub loop-place-preserved : goal.loop-place-preserved
loop-place-preserved c =
    let i = c.loop-place.place in
    let taken = c.args.taken.now in
    record {
      kept = extends_trans _ _ _ c.loop-place.invariant.kept c.in_ok-take_move.ensures.kept;
      registers = c.in_ok-take_move.ensures.registers ∙ c.loop-place.invariant.registers;
      size = c.in_ok-take_move.ensures.size ∙ c.loop-place.invariant.size;
      nets = c.in_ok-take_move.ensures.nets;
      stream = λ inputs run h n within s.
          below_more i (λ v. Targets (get_or c.args.nexts.now v Fail) c.args.failure s × On
          (stream_at run (numbers taken) v) n) _ _ _ _
          (c.loop-place.invariant.stream inputs run (c.in_ok-take_move.ensures.kept.runs inputs run h) n within s)
          (c.in_ok-take_move.ensures.stream inputs run h n within s) (
            (λ p. (p.0, on_same run n _ _ (number_of taken i) p.1)),
            (λ p. (p.0, on_same run n _ _ (sym (number_of taken i)) p.1)),
          );
    }

pub returns-clause-stream : goal.returns-clause-stream
returns-clause-stream c inputs run h n within s =
    let all : c.loop-place.place ≡ length c.args.nexts.now = omega arith in
    subst (λ (i : ℕ). On (stream_at run (numbers c.loop-place.arrivals.items) s) n ↔
    (On (stream_at run (numbers c.args.arrivals.now.items) s) n ⊎
    ((v : ℕ) × (v < i) × (Targets (get_or c.args.nexts.now v Fail) c.args.failure s × On
    (stream_at run (numbers c.args.taken.now) v) n)))) all
    (c.loop-place.invariant.stream inputs run h n within s)
