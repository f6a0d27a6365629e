use Rattle.std.proofs.Common.{refl, arith}
use Rattle.first_failure_examples.proofs.tables.again_and_again.Goals as goal

pub materialise-requires : goal.materialise-requires
materialise-requires c =
    c.new.ensures.fits 100000 tt (c.if-not-are_small.ensures.left refl) (omega arith)
