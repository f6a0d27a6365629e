use Rattle.weak_determinise.proofs.Gathering.{symbol_at}
use Rattle.weak_determinise.proofs.stepping.put_symbols.Goals as goal

pub loop-literal-preserved : goal.loop-literal-preserved
loop-literal-preserved c = symbol_at _ c.loop-literal.literal-index _ _ _ _ c.loop-literal-test.true
    c.loop-literal.invariant c.in_ok-put_symbol.ensures
