use Rattle.strong_obligations.proofs.chains.gate_of.Goals as goal

pub returns-clause-go : goal.returns-clause-go
returns-clause-go c inputs run h =
    let r2 = c.in_ok-fail.ensures.kept.runs inputs run h in
    let r1 = c.in_ok-chain.ensures.kept.runs inputs run r2 in
    c.in_ok-chain.ensures.due inputs run r2 (run c.args.clear.0) (c.in_ok-uncleared.ensures.stream inputs run r1)

pub returns-clause-pend : goal.returns-clause-pend
returns-clause-pend c inputs run h =
    let r2 = c.in_ok-fail.ensures.kept.runs inputs run h in
    let r1 = c.in_ok-chain.ensures.kept.runs inputs run r2 in
    c.in_ok-chain.ensures.waiting inputs run r2 (run c.args.clear.0) (c.in_ok-uncleared.ensures.stream inputs run r1)

pub returns-clause-fail : goal.returns-clause-fail
returns-clause-fail c inputs run h n within on = on (c.in_ok-fail.ensures.stream inputs run h n within)
