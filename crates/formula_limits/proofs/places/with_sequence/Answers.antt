use Rattle.std.proofs.Common.{◌≡◌, ◌+◌, ◌<◌, arith}
use Rattle.psl_model.specs.View.{sere_of}
use Rattle.sequence_cores.specs.Places.{places_of, place_limit}
use Rattle.formula_limits.specs.Places.{told_number}
use Rattle.formula_limits.proofs.Behind.{one_large}
use Rattle.formula_limits.proofs.places.with_sequence.Goals as goal

pub returns-then-places-gt-PLACE_LIMIT : goal.returns-then-places-gt-PLACE_LIMIT
returns-then-places-gt-PLACE_LIMIT c n is =
    let above : place_limit < places_of (sere_of c.args.sere.now) = omega arith in
    let next : c.saturating_add-sequence.result ≡ told_number (n + 1) = omega arith in
    one_large (sere_of c.args.sere.now) n c.saturating_add-sequence.result c.places-places.result above next
    c.places-places.ensures
