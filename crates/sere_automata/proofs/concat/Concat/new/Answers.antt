use Rattle.std.proofs.Common.{arith}
use Rattle.automata_product.specs.declared.side.Side.TheVariants.{Left}
use Rattle.sere_automata.proofs.Counts.{concat_few}
use Rattle.sere_automata.proofs.concat.Concat.new.Goals as goal

pub returns-clause-words : goal.returns-clause-words
returns-clause-words g c = λ w. c.the_concatenation_accepts_one_list_after_the_other.ensures.words
    (g.A.Auto.machine c.args.left) (g.B.Auto.machine c.args.right) w

pub returns-clause-few : goal.returns-clause-few
returns-clause-few g c = λ i j few more. concat_few (g.A.Auto.machine c.args.left) (g.B.Auto.machine c.args.right) i
    j few more

pub returns-clause-fits : goal.returns-clause-fits
returns-clause-fits g c = λ i j left right few more small narrow.
    let all = concat_few (g.A.Auto.machine c.args.left) (g.B.Auto.machine c.args.right) i j few more in
    (left, right, λ p o. omega (arith, all.each (Left p) o, small, narrow))
