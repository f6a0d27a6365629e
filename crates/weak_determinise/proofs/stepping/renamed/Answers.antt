use Rattle.weak_determinise.proofs.Gathering.{literal_at}
use Rattle.weak_determinise.proofs.stepping.renamed.Goals as goal

pub loop-literal-preserved : goal.loop-literal-preserved
loop-literal-preserved c = literal_at c.args.symbols.now _ c.loop-literal.literal-index _ c.place_of-symbol.result _ _
    c.requires.rising c.loop-literal-test.true c.loop-literal.invariant c.place_of-symbol.ensures
    c.in_ok-put.ensures.members
