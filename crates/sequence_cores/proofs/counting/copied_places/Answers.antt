use Rattle.std.proofs.Common.{◌≡◌, ◌<◌, sym, ap, ◌∙◌, arith}
use Rattle.sequence_cores.specs.Places.{told}
use Rattle.sequence_cores.proofs.Told.{no_copies, some_copies}
use Rattle.sequence_cores.proofs.counting.copied_places.Goals as goal

pub returns-then-count-eq0 : goal.returns-then-count-eq0
returns-then-count-eq0 c p h = sym (ap told (no_copies c.args.count p (omega arith)))

pub returns : goal.returns
returns c p h =
    let small : c.from.result ≡ told c.args.count = omega arith in
    c.product.ensures c.args.count p small h ∙ sym (ap told (some_copies c.args.count p (omega arith)))
