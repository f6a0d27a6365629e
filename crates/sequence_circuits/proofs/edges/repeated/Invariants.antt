use Rattle.std.proofs.Common.{◌≡◌, replicate}
use Rattle.sequence_circuits.proofs.edges.repeated.Given as goal

abbrev pub invariant-loop-place : goal.invariant-loop-place
invariant-loop-place l = l.nets.items ≡ replicate l._place l.net
