use Rattle.std.proofs.Common.{inl, inr}
use Rattle.property_circuits.proofs.gates.join_waiting.Goals as goal

pub returns-in_ok-pend-clause-pends : goal.returns-in_ok-pend-clause-pends
returns-in_ok-pend-clause-pends c inputs run h n within =
    let o = c.in_ok-pend.ensures.stream inputs run h n within in (
      (λ on. elim (o.0 on) [ inl x ↦ inl x | inr x ↦ inr (c.if-strong.true, x) ]),
      (λ some. o.1 (elim some [ inl x ↦ inl x | inr x ↦ inr x.1 ])),
    )
