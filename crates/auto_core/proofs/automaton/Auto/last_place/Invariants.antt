use Rattle.std.proofs.Common.{◌≡◌, ◌≤◌, length, take}
use Rattle.std.specs.Prelude.{filter}
use Rattle.auto_core.proofs.automaton.Auto.last_place.Given as goal

abbrev pub invariant-loop-place : goal.invariant-loop-place
invariant-loop-place g l =
    let m = g.Self.Auto.machine l.self in
    (l.seen ≤ l.rank) × (l.seen ≡ length (filter (λ x. m.accepts x.1) (take l.place (m.edges l.state))))
