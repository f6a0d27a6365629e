use Rattle.strong_obligations.proofs.starts.gate_until.Goals as goal

pub returns-clause-go : goal.returns-clause-go
returns-clause-go c inputs run h =
    c.in_ok-live.ensures.stream inputs run (c.in_ok-fail.ensures.kept.runs inputs run h)

pub returns-clause-pend : goal.returns-clause-pend
returns-clause-pend c = returns-clause-go c

pub returns-clause-fail : goal.returns-clause-fail
returns-clause-fail c inputs run h n within on = on (c.in_ok-fail.ensures.stream inputs run h n within)
