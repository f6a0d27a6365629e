use Rattle.sequence_circuits.proofs.Literals.{literal_on, literal_off}
use Rattle.sequence_circuits.proofs.edges.literal_net.Goals as goal

pub returns-in_ok-negated-clause-stream : goal.returns-in_ok-negated-clause-stream
returns-in_ok-negated-clause-stream c inputs run h n within =
    literal_off run n c.args.guards.now c.args.literal.symbol c.args.literal.positive c.in_ok-negated.negated.0
    c.if-literal.false (c.in_ok-negated.ensures.stream inputs run h n within)

pub returns-then-literal-clause-stream : goal.returns-then-literal-clause-stream
returns-then-literal-clause-stream c inputs run h n within =
    literal_on run n c.args.guards.now c.args.literal.symbol c.args.literal.positive c.if-literal.true
