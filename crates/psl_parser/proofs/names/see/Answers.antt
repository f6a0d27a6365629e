use Rattle.psl_parser.specs.Seen.{known_before}
use Rattle.psl_parser.proofs.Known.{seen_more}
use Rattle.psl_parser.proofs.names.see.Goals as goal

pub returns : goal.returns
returns c =
    seen_more c.args.text.now c.args.tokens.now c.args.place c.args.symbols.items c.in_ok-all.all.items
    c.in_ok-symbol.symbol c.token_at-token.result c.requires.symbols c.token_at-token.ensures.same
    (c.in_ok-symbol.ensures (known_before c.args.text.now c.args.tokens.now c.args.place) c.requires.known.known)
    c.in_ok-all.ensures
