use Rattle.psl_parser.proofs.Known.{seen_length}
use Rattle.psl_parser.proofs.parsing.symbols_of.Goals as goal

pub returns-clause-many : goal.returns-clause-many
returns-clause-many c =
    seen_length c.args.text.now c.args.tokens.now c.in_ok-symbols.symbols.items c.in_ok-symbols.ensures
