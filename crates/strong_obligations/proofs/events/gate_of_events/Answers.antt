use Rattle.std.proofs.Common.{length}
use Rattle.strong_obligations.specs.inner.Counts.{AreCounted}
use Rattle.strong_obligations.proofs.Sighting.{due_event, awaited_event}
use Rattle.strong_obligations.proofs.events.gate_of_events.Goals as goal

pub returns-clause-go : goal.returns-clause-go
returns-clause-go c inputs run h n within =
    let on = run c.args.on.0 in
    let clear = run c.args.clear.0 in
    let r3 = c.in_ok-fail.ensures.kept.runs inputs run h in
    let r2 = c.in_ok-count.ensures.kept.runs inputs run r3 in
    let are : AreCounted (length inputs.trace) on (run c.in_ok-quiet.quiet.0) on clear
    (run c.in_ok-uncleared.uncleared.0) = record {
      quiets = c.in_ok-quiet.ensures.stream inputs run r2;
      opens = c.in_ok-uncleared.ensures.stream inputs run (c.in_ok-quiet.ensures.kept.runs inputs run r2);
      lates = λ m inside there. there;
    } in
    due_event on (run c.args.start.0) clear (run c.in_ok-count.count.due.0) c.args.low c.args.high n
    (c.in_ok-count.ensures.due inputs run r3 clear are n within)

pub returns-clause-fail : goal.returns-clause-fail
returns-clause-fail c inputs run h n within on = on (c.in_ok-fail.ensures.stream inputs run h n within)

pub returns-clause-pend : goal.returns-clause-pend
returns-clause-pend c inputs run h n within =
    let on = run c.args.on.0 in
    let clear = run c.args.clear.0 in
    let r3 = c.in_ok-fail.ensures.kept.runs inputs run h in
    let r2 = c.in_ok-count.ensures.kept.runs inputs run r3 in
    let are : AreCounted (length inputs.trace) on (run c.in_ok-quiet.quiet.0) on clear
    (run c.in_ok-uncleared.uncleared.0) = record {
      quiets = c.in_ok-quiet.ensures.stream inputs run r2;
      opens = c.in_ok-uncleared.ensures.stream inputs run (c.in_ok-quiet.ensures.kept.runs inputs run r2);
      lates = λ m inside there. there;
    } in
    awaited_event on (run c.args.start.0) clear (run c.in_ok-count.count.waiting.0) c.args.low c.args.high n
    (c.in_ok-count.ensures.waiting inputs run r3 clear are n within)
