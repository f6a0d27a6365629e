use Rattle.std.proofs.Common.{refl, sym, subst}
use Rattle.sequence_circuits.proofs.moves.take_move.Goals as goal
use Rattle.sequence_circuits.specs.inner.Moves.{Targets}
use Rattle.first_failure.specs.declared.automaton.Next.{Next}
use Rattle.sequence_circuits.proofs.Targeting.{to_fail, to_row}

pub put_or-requires-clause-place : goal.put_or-requires-clause-place
put_or-requires-clause-place c = c.requires.target c.args.failure
    (subst (λ (x : Next). Targets x c.args.failure c.args.failure) (sym c.in-Fail.is) refl)

pub put_or-requires-in-Go-clause-place : goal.put_or-requires-in-Go-clause-place
put_or-requires-in-Go-clause-place c = c.requires.target c.in-Go.row
    (subst (λ (x : Next). Targets x c.args.failure c.in-Go.row) (sym c.in-Go.is) refl)

pub returns-in_ok-put_or-in-Fail-clause-stream : goal.returns-in_ok-put_or-in-Fail-clause-stream
returns-in_ok-put_or-in-Fail-clause-stream c inputs run h n within s = to_fail _ _ _ c.args.next c.args.failure s
    c.in-Fail.is (c.in_ok-put_or-in-Fail.ensures.stream inputs run h n within s)

pub returns-in_ok-put_or-in-Go-clause-stream : goal.returns-in_ok-put_or-in-Go-clause-stream
returns-in_ok-put_or-in-Go-clause-stream c inputs run h n within s = to_row _ _ _ c.args.next c.in-Go.row
    c.args.failure s c.in-Go.is (c.in_ok-put_or-in-Go.ensures.stream inputs run h n within s)
