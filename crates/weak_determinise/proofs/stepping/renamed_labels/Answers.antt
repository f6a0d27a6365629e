use Rattle.weak_determinise.proofs.Gathering.{renamed_more, symbols_there}
use Rattle.weak_determinise.proofs.stepping.renamed_labels.Goals as goal

pub renamed-requires-clause-there : goal.renamed-requires-clause-there
renamed-requires-clause-there c = symbols_there c.args.labels.now c.args.symbols.now c.loop-label.label-index
    c.label-item.result c.requires c.loop-label-test.true c.label-item.is

pub loop-label-preserved : goal.loop-label-preserved
loop-label-preserved c = renamed_more c.args.symbols.now c.args.labels.now c.loop-label.label-index
    c.label-item.result _ _ _ c.loop-label-test.true c.label-item.is c.loop-label.invariant c.in_ok-renamed.ensures
    c.in_ok-push.ensures.items
