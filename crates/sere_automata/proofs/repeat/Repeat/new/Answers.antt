use Rattle.std.proofs.Common.{arith}
use Rattle.sere_automata.specs.declared.states.Round.TheVariants.{Inner}
use Rattle.sere_automata.proofs.Counts.{repeat_few}
use Rattle.sere_automata.proofs.repeat.Repeat.new.Goals as goal

pub returns-clause-words : goal.returns-clause-words
returns-clause-words g c = λ w.
    c.the_repetition_accepts_any_number_of_lists.ensures.words (g.A.Auto.machine c.args.inner) w

pub returns-clause-unrolled : goal.returns-clause-unrolled
returns-clause-unrolled g c = λ w.
    c.the_repetition_accepts_any_number_of_lists.ensures.unrolled (g.A.Auto.machine c.args.inner) w

pub returns-clause-few : goal.returns-clause-few
returns-clause-few g c = λ i few. repeat_few (g.A.Auto.machine c.args.inner) i few

pub returns-clause-fits : goal.returns-clause-fits
returns-clause-fits g c = λ i inner few small.
    let all = repeat_few (g.A.Auto.machine c.args.inner) i few in
    (inner, λ p o. omega (arith, all.each (Inner p) o, small))
