use Rattle.std.proofs.Common.{arith}
use Rattle.sere_automata.specs.declared.states.Choice.TheVariants.{New}
use Rattle.sere_automata.proofs.Counts.{one_of_few}
use Rattle.sere_automata.proofs.one_of.OneOf.new.Goals as goal

pub returns-clause-words : goal.returns-clause-words
returns-clause-words g c = λ w. c.the_choice_accepts_what_either_accepts.ensures.words
    (g.A.Auto.machine c.args.left) (g.B.Auto.machine c.args.right) w

pub returns-clause-few : goal.returns-clause-few
returns-clause-few g c = λ i j few more. one_of_few (g.A.Auto.machine c.args.left) (g.B.Auto.machine c.args.right) i
    j few more

pub returns-clause-fits : goal.returns-clause-fits
returns-clause-fits g c = λ i j left right few more small narrow.
    let all = one_of_few (g.A.Auto.machine c.args.left) (g.B.Auto.machine c.args.right) i j few more in
    (left, right, omega (arith, all.each New tt, small, narrow))
