use Rattle.std.proofs.Common.{inl, inr}
use Rattle.std.proofs.lemmas.Bool.Decides.{Decides-eqb}
use Rattle.strong_obligations.proofs.chains.begun.Goals as goal

pub returns-clause-live : goal.returns-clause-live
returns-clause-live c inputs run h =
    let r2 = c.in_ok-due.ensures.kept.runs inputs run h in
    c.in_ok-live.ensures.stream inputs run (c.in_ok-waiting.ensures.kept.runs inputs run r2)

pub returns-clause-waiting : goal.returns-clause-waiting
returns-clause-waiting c inputs run h n within on =
    on (c.in_ok-waiting.ensures.stream inputs run (c.in_ok-due.ensures.kept.runs inputs run h) n within)

pub returns-clause-due : goal.returns-clause-due
returns-clause-due c inputs run h n within =
    let o = c.in_ok-due.ensures.stream inputs run h n within in (
      (λ on. elim (o.0 on) [
        | inl none ↦ absurd (returns-clause-waiting c inputs run h n within none)
        | inr x ↦ ((Decides-eqb c.args.low 0).0 x.0, x.1)
      ]),
      (λ x. o.1 (inr ((Decides-eqb c.args.low 0).1 x.0, x.1))),
    )
