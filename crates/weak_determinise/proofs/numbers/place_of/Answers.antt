use Rattle.weak_determinise.proofs.Rising.{not_absent}
use Rattle.weak_determinise.proofs.numbers.place_of.Goals as goal

pub returns-in-Err : goal.returns-in-Err
returns-in-Err c = absurd (not_absent c.args.symbol c.args.symbols.now c.requires.rising _ c.in-Err.ensures.position
    c.requires.there)
