use Rattle.std.proofs.Common.{arith}
use Rattle.automata_product.proofs.Counts.{both_few, product_below}
use Rattle.automata_product.proofs.both.Both.new.Goals as goal

pub returns-clause-words : goal.returns-clause-words
returns-clause-words g c = λ w.
    c.the_product_accepts_what_both_accept.ensures.words
    (g.A.Auto.machine c.args.left) (g.B.Auto.machine c.args.right) w

pub returns-clause-few : goal.returns-clause-few
returns-clause-few g c = λ i j few more.
    both_few (g.A.Auto.machine c.args.left) (g.B.Auto.machine c.args.right) i j few more

pub returns-clause-fits : goal.returns-clause-fits
returns-clause-fits g c = λ i j left right few more small narrow.
    let all = both_few (g.A.Auto.machine c.args.left) (g.B.Auto.machine c.args.right) i j few more in
    (left, right, λ p q o k. omega (arith, all.each (p, q) (o, k), product_below i j small narrow))
