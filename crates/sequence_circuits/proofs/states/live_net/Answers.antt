use Rattle.sequence_circuits.proofs.states.live_net.Goals as goal

pub returns-clause-stream : goal.returns-clause-stream
returns-clause-stream c inputs run h n within =
    let begun = c.in_ok-begun.ensures.stream inputs run (c.in_ok-live.ensures.kept.runs inputs run h) n within in
    let both = c.in_ok-live.ensures.stream inputs run h n within in
    ((λ on. let p = both.0 on in (begun.0 p.0, p.1)), (λ p. both.1 (begun.1 p.0, p.1)))
