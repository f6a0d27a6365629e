use Rattle.std.proofs.Common.{inl, inr}
use Rattle.sequence_circuits.proofs.states.or_if.Goals as goal

pub returns-in_ok-joined-clause-stream : goal.returns-in_ok-joined-clause-stream
returns-in_ok-joined-clause-stream c inputs run h n within =
    let o = c.in_ok-joined.ensures.stream inputs run h n within in (
      (λ on. elim (o.0 on) [ inl x ↦ inl x | inr x ↦ inr (c.if-wanted.true, x) ]),
      (λ some. o.1 (elim some [ inl x ↦ inl x | inr x ↦ inr x.1 ])),
    )
