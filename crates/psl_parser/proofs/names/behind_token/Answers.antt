use Rattle.std.proofs.Common.{sym, ap, ◌∙◌, List}
use Rattle.psl_grammar.specs.declared.symbols.Symbol.{Symbol}
use Rattle.psl_grammar.specs.Symbols.{symbol_at}
use Rattle.psl_parser.specs.Seen.{known_before}
use Rattle.psl_parser.proofs.Known.{declared_known}
use Rattle.psl_parser.proofs.names.behind_token.Goals as goal

pub returns : goal.returns
returns c =
    declared_known c.args.text.now c.args.tokens.now c.args.place c.args.names c.in_ok-more.more
    c.symbol_at-symbol.result c.saturating_sub-first.result
    (c.symbol_at-symbol.ensures ∙ ap (λ (l : List Symbol). symbol_at l c.args.place) c.requires.plain)
    c.saturating_sub-first.ensures c.requires.known (sym c.if-not-ends_item.ensures)
    (c.in_ok-more.ensures.known (known_before c.args.text.now c.args.tokens.now c.args.place) c.requires.known.known)
