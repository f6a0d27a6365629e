use Rattle.psl_parser.proofs.Known.{knows_more}
use Rattle.psl_parser.proofs.names.learn.Goals as goal

pub returns-in-Ok-clause-known : goal.returns-in-Ok-clause-known
returns-in-Ok-clause-known c = λ known knows.
    knows_more known c.args.name c.args.meaning c.args.names
    (record { known = c.in-Ok.all; braces = c.args.names.braces; own = c.args.names.own }) c.in-Ok.ensures knows
