use Rattle.std.proofs.Common.{◌+◌, ◌*◌, refl}
use Rattle.sequence_cores.proofs.counting.meet_places.Goals as goal

pub returns : goal.returns
returns c a b p q =
    let right_padded = c.sum-right_padded.ensures b 3 q refl in
    let left_longer = c.product-left_longer.ensures a (b + 3) p right_padded in
    let left_padded = c.sum-left_padded.ensures a 3 p refl in
    let right_longer = c.product-right_longer.ensures (a + 3) b left_padded q in
    let either = c.sum-either.ensures (a * (b + 3)) ((a + 3) * b) left_longer right_longer in
    c.sum.ensures (a * (b + 3) + (a + 3) * b) 1 either refl
