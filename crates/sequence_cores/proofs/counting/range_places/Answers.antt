use Rattle.std.proofs.Common.{◌≡◌, ◌+◌, ◌-◌, ◌*◌, refl, arith}
use Rattle.sequence_cores.specs.Places.{copied_places, told}
use Rattle.sequence_cores.proofs.counting.range_places.Goals as goal

pub returns : goal.returns
returns c p h =
    let low = c.args.low in
    let more = c.args.high - c.args.low in
    let small : c.from.result ≡ told more = omega arith in
    let front = c.copied_places-front.ensures p h in
    let optional = c.sum-optional.ensures p 2 h refl in
    let rest = c.product-rest.ensures more (p + 2) small optional in
    c.sum.ensures (copied_places low p) (more * (p + 2)) front rest
