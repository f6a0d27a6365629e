use Rattle.sequence_circuits.proofs.edges.and_literal.Goals as goal

pub returns-clause-stream : goal.returns-clause-stream
returns-clause-stream c inputs run h n within =
    let literal = c.in_ok-here.ensures.stream inputs run (c.in_ok-both.ensures.kept.runs inputs run h) n within in
    let both = c.in_ok-both.ensures.stream inputs run h n within in
    ((λ on. let p = both.0 on in (p.0, literal.0 p.1)), (λ p. both.1 (p.0, literal.1 p.1)))
