use Rattle.std.proofs.Common.{refl, ap, ◌∙◌, List}
use Rattle.psl_grammar.specs.declared.symbols.Symbol.{Symbol}
use Rattle.psl_grammar.specs.Symbols.{symbol_at}
use Rattle.psl_parser.specs.Depth.{behind}
use Rattle.psl_parser.proofs.Known.{known_on}
use Rattle.psl_parser.proofs.names.moved.Goals as goal

pub returns : goal.returns
returns c =
    known_on c.args.text.now c.args.tokens.now c.args.place c.args.names c.in_ok-more.more
    (record {
      known = c.in_ok-more.more.known;
      braces = c.behind-item.result.0;
      own = c.behind-item.result.1;
    })
    c.requires.at c.requires.known c.in_ok-more.ensures refl
    (c.behind-item.ensures.same
    ∙ ap (λ (s : Symbol). behind (c.args.names.braces, c.args.names.own) s)
    (c.symbol_at-symbol.ensures ∙ ap (λ (l : List Symbol). symbol_at l c.args.place) c.requires.plain))
    c.behind-item.ensures.few c.behind-item.ensures.few_own
