use Rattle.std.proofs.Common.{sym}
use Rattle.psl_parser.proofs.Walking.{first_of}
use Rattle.psl_parser.proofs.depth.first_deep.Goals as goal

pub returns-then-is_some : goal.returns-then-is_some
returns-then-is_some c =
    first_of c.args.symbols.now c.tokens.place c.depth_at-deep.result (sym c.if-is_some.ensures) c.tokens.invariant.1
    c.depth_at-deep.ensures.deep c.depth_at-deep.ensures.token c.depth_at-deep.ensures.item
