use Rattle.std.proofs.Common.{ℕ, ◌<◌, ◌↔◌, length}
use Rattle.circuit_core.specs.Run.{On}
use Rattle.strong_obligations.specs.inner.Counts.{AreCounted}
use Rattle.strong_obligations.proofs.Sighting.{late_unseen, missed, waits}
use Rattle.strong_obligations.proofs.events.gate_of_sights.Goals as goal

pub returns-clause-go : goal.returns-clause-go
returns-clause-go c inputs run h n within on =
    on (c.in_ok-go.ensures.stream inputs run (c.in_ok-count.ensures.kept.runs inputs run h) n within)

pub returns-clause-fail : goal.returns-clause-fail
returns-clause-fail c inputs run h n within =
    let on = run c.args.on.0 in
    let seen = run c.args.seen.0 in
    let clear = run c.args.clear.0 in
    let quiet = run c.in_ok-quiet.quiet.0 in
    let unseen = run c.in_ok-unseen.unseen.0 in
    let late = run c.in_ok-late.late.0 in
    let uncleared = run c.in_ok-uncleared.uncleared.0 in
    let r4 = c.in_ok-go.ensures.kept.runs inputs run (c.in_ok-count.ensures.kept.runs inputs run h) in
    let r3 = c.in_ok-late.ensures.kept.runs inputs run r4 in
    let r2 = c.in_ok-unseen.ensures.kept.runs inputs run r3 in
    let lates : (m : ℕ) → m < length inputs.trace → On late m ↔ (On on m × ¬ On seen m) =
    late_unseen _ on seen unseen late (c.in_ok-unseen.ensures.stream inputs run r3)
    (c.in_ok-late.ensures.stream inputs run r4) in
    let are : AreCounted (length inputs.trace) on quiet late clear uncleared = record {
      quiets = c.in_ok-quiet.ensures.stream inputs run r2;
      opens = c.in_ok-uncleared.ensures.stream inputs run (c.in_ok-quiet.ensures.kept.runs inputs run r2);
      lates = λ m inside there. ((lates m inside).0 there).0;
    } in
    missed (length inputs.trace) on seen late lates (run c.args.start.0) clear (run c.in_ok-count.count.due.0) c.args.low
    c.args.high (c.in_ok-count.ensures.due inputs run h clear are) n within

pub returns-clause-pend : goal.returns-clause-pend
returns-clause-pend c inputs run h n within =
    let on = run c.args.on.0 in
    let seen = run c.args.seen.0 in
    let clear = run c.args.clear.0 in
    let quiet = run c.in_ok-quiet.quiet.0 in
    let unseen = run c.in_ok-unseen.unseen.0 in
    let late = run c.in_ok-late.late.0 in
    let uncleared = run c.in_ok-uncleared.uncleared.0 in
    let r4 = c.in_ok-go.ensures.kept.runs inputs run (c.in_ok-count.ensures.kept.runs inputs run h) in
    let r3 = c.in_ok-late.ensures.kept.runs inputs run r4 in
    let r2 = c.in_ok-unseen.ensures.kept.runs inputs run r3 in
    let lates : (m : ℕ) → m < length inputs.trace → On late m ↔ (On on m × ¬ On seen m) =
    late_unseen _ on seen unseen late (c.in_ok-unseen.ensures.stream inputs run r3)
    (c.in_ok-late.ensures.stream inputs run r4) in
    let are : AreCounted (length inputs.trace) on quiet late clear uncleared = record {
      quiets = c.in_ok-quiet.ensures.stream inputs run r2;
      opens = c.in_ok-uncleared.ensures.stream inputs run (c.in_ok-quiet.ensures.kept.runs inputs run r2);
      lates = λ m inside there. ((lates m inside).0 there).0;
    } in
    waits (length inputs.trace) on seen late lates (run c.args.start.0) clear (run c.in_ok-count.count.waiting.0)
    c.args.low c.args.high n within (c.in_ok-count.ensures.waiting inputs run h clear are n within)
