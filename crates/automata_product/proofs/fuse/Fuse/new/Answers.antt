use Rattle.std.proofs.Common.{arith}
use Rattle.automata_product.proofs.Counts.{fuse_few, fuse_left_few, product_below}
use Rattle.automata_product.proofs.fuse.Fuse.new.Goals as goal

pub returns-clause-words : goal.returns-clause-words
returns-clause-words g c = λ w.
    c.the_fusion_accepts_the_overlaps_in_one_letter.ensures.words
    (g.A.Auto.machine c.args.left) (g.B.Auto.machine c.args.right) w

pub returns-clause-few : goal.returns-clause-few
returns-clause-few g c = λ i j few more.
    fuse_few (g.A.Auto.machine c.args.left) (g.B.Auto.machine c.args.right) i j few more

pub returns-clause-fits : goal.returns-clause-fits
returns-clause-fits g c = λ i j left right few more small narrow.
    let m = g.A.Auto.machine c.args.left in
    let n = g.B.Auto.machine c.args.right in
    (left, right, λ p o. omega (arith, fuse_left_few m n i j few more p o, product_below i j small narrow))
