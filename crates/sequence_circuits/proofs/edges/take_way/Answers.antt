use Rattle.sequence_circuits.specs.Guards.{numbers}
use Rattle.sequence_circuits.specs.Detection.{letter_at}
use Rattle.sequence_circuits.proofs.Ways.{way_put}
use Rattle.sequence_circuits.proofs.edges.take_way.Goals as goal

pub returns-clause-stream : goal.returns-clause-stream
returns-clause-stream c inputs run h n within s =
    way_put run n c.args.arrivals.now.items c.args.way.now c.args.source.0 c.index.result.now c.in_ok-taken.taken.0
    c.in_ok-joined.joined (letter_at run (numbers c.args.guards.now) n) c.requires.to c.index.ensures
    (c.in_ok-joined.ensures.stream inputs run h n within)
    (c.in_ok-taken.ensures.stream inputs run (c.in_ok-joined.ensures.kept.runs inputs run h) n within) s
