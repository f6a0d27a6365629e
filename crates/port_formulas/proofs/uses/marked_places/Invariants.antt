use Rattle.std.proofs.Common.{◌≡◌, false, get_or}
use Rattle.std.specs.Prelude.{filter}
use Rattle.std.specs.List.{range_with_len}
use Rattle.port_formulas.proofs.uses.marked_places.Given as goal

abbrev pub invariant-loop-place : goal.invariant-loop-place
invariant-loop-place l = l.places.items ≡ filter (λ place. get_or l.marks place false) (range_with_len 0 l.place)
