use Rattle.std.proofs.Common.{◌+◌, refl, sym, ap, ◌∙◌, arith}
use Rattle.sequence_cores.specs.Places.{copied_places, told}
use Rattle.sequence_cores.proofs.Told.{any_number, at_least}
use Rattle.sequence_cores.proofs.counting.unbounded_places.Goals as goal

pub returns-then-low-eq0 : goal.returns-then-low-eq0
returns-then-low-eq0 c p h = c.sum-rest.ensures p 1 h refl ∙ sym (ap told (any_number c.args.low p (omega arith)))

pub returns : goal.returns
returns c p h =
    let low = c.args.low in
    let front = c.copied_places-front.ensures p h in
    let rest = c.sum-rest.ensures p 1 h refl in
    c.sum.ensures (copied_places low p) (p + 1) front rest ∙ sym (ap told (at_least low p (omega arith)))
