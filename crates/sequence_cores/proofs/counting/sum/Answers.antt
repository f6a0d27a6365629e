use Rattle.std.proofs.Common.{◌≡◌, ◌+◌, ◌∙◌, arith}
use Rattle.sequence_cores.specs.Places.{told}
use Rattle.sequence_cores.proofs.Told.{sum_told}
use Rattle.sequence_cores.proofs.counting.sum.Goals as goal

pub returns : goal.returns
returns c a b p q =
    let capped : c.min.result ≡ told (c.args.left + c.args.right) = omega arith in
    capped ∙ sum_told c.args.left c.args.right a b p q
