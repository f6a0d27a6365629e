use Rattle.sequence_circuits.proofs.moves.put_or.Goals as goal
use Rattle.sequence_circuits.proofs.Nets.{or_put}

pub returns-clause-stream : goal.returns-clause-stream
returns-clause-stream c inputs run h n within s =
    or_put run n c.args.nets.now.items c.args.place c.index.result.now c.args.more.0 c.in_ok-joined.joined
    c.requires.place c.index.ensures (c.in_ok-joined.ensures.stream inputs run h n within) s
