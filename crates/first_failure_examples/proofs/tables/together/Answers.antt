use Rattle.std.proofs.Common.{refl, arith}
use Rattle.first_failure_examples.proofs.tables.together.Goals as goal

pub materialise-requires : goal.materialise-requires
materialise-requires c =
    let left = c.if-not-are_small.ensures.left refl in
    let right = c.if-not-are_small.ensures.right refl in
    c.new.ensures.fits 100000 100000 tt tt left right (omega arith) (omega arith)
