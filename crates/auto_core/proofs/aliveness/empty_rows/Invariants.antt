use Rattle.std.proofs.Common.{◌≡◌, map, replicate, [], vec_items}
use Rattle.auto_core.proofs.aliveness.empty_rows.Given as goal

abbrev pub invariant-loop-state : goal.invariant-loop-state
invariant-loop-state l = map vec_items l.rows.items ≡ replicate l._state []
