use Rattle.std.proofs.Common.{arith}
use Rattle.strong_obligations.proofs.Opens.{unstopped}
use Rattle.strong_obligations.proofs.starts.unstopped.Goals as goal

pub returns-clause-stream : goal.returns-clause-stream
returns-clause-stream c inputs run h n within =
    let r1 = c.in_ok-live.ensures.kept.runs inputs run h in
    unstopped (run c.args.start.0) (run c.args.clear.0) (run c.args.stop.0) (run c.in_ok-dropped.dropped.0)
    (run c.in_ok-live.live.0) n
    (λ k below. c.in_ok-dropped.ensures.stream inputs run r1 k (omega (arith, below)))
    (c.in_ok-live.ensures.stream inputs run h n within)
