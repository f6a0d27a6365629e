use Rattle.weak_determinise.proofs.Gathering.{label_symbols_more}
use Rattle.weak_determinise.proofs.stepping.symbols_of.Goals as goal

pub loop-label-preserved : goal.loop-label-preserved
loop-label-preserved c = label_symbols_more c.args.labels.now c.loop-label.label-index c.label-item.result _ _
    c.loop-label-test.true c.label-item.is c.loop-label.invariant c.in_ok-put_symbols.ensures
