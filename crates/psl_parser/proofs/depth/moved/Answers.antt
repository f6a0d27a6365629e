use Rattle.psl_parser.proofs.Walking.{moved_by}
use Rattle.psl_parser.proofs.depth.moved.Goals as goal

pub returns : goal.returns
returns c =
    moved_by c.args.symbols.now c.args.place c.args.walk
    (record {
      phrases = c.in_ok-phrases.phrases;
      closers = c.in_ok-closers.closers;
      behind = c.behind_from-stands_behind.result;
      braced = c.either-braced.result;
      braces = c.behind-item.result.0;
      own = c.behind-item.result.1;
    })
    c.args.kept.items c.symbol_at-symbol.result c.closer_at-closer.result c.in_ok-closers.form c.opens_event-event.result
    c.is_open_brace-brace.result c.reach_from-reach.result c.requires.within c.requires.at c.requires.kept
    c.symbol_at-symbol.ensures c.closer_at-closer.ensures c.in_ok-closers.ensures.closers c.in_ok-closers.ensures.form
    c.reach_from-reach.ensures c.opens_event-event.ensures c.in_ok-phrases.ensures c.behind_from-stands_behind.ensures
    c.is_open_brace-brace.ensures c.either-braced.ensures c.behind-item.ensures.same c.behind-item.ensures.few
    c.behind-item.ensures.few_own
