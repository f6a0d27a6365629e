use Rattle.std.proofs.Common.{◌≡◌, ◌*◌, ◌∙◌, arith}
use Rattle.sequence_cores.specs.Places.{told}
use Rattle.sequence_cores.proofs.Told.{product_told}
use Rattle.sequence_cores.proofs.counting.product.Goals as goal

pub returns : goal.returns
returns c a b p q =
    let capped : c.min.result ≡ told (c.args.left * c.args.right) = omega arith in
    capped ∙ product_told c.args.left c.args.right a b p q
