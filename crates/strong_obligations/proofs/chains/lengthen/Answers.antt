use Rattle.strong_obligations.proofs.chains.lengthen.Goals as goal

pub returns-clause-live_first : goal.returns-clause-live_first
returns-clause-live_first c inputs run h =
    c.in_ok-live.ensures.first inputs run (c.in_ok-due.ensures.kept.runs inputs run h)

pub returns-clause-live_later : goal.returns-clause-live_later
returns-clause-live_later c inputs run h =
    c.in_ok-live.ensures.later inputs run (c.in_ok-due.ensures.kept.runs inputs run h)

pub returns-clause-waiting : goal.returns-clause-waiting
returns-clause-waiting c inputs run h =
    let r2 = c.in_ok-due.ensures.kept.runs inputs run h in
    c.in_ok-waiting.ensures.stream inputs run (c.in_ok-live.ensures.kept.runs inputs run r2)
