use Rattle.std.proofs.Common.{◌≡◌, ◌≤◌, length, take}
use Rattle.std.specs.Prelude.{filter}
use Rattle.auto_core.proofs.automaton.Auto.last_count.Given as goal

abbrev pub invariant-loop-place : goal.invariant-loop-place
invariant-loop-place g l =
    let m = g.Self.Auto.machine l.self in
    (l.count ≤ l.place) × (l.count ≡ length (filter (λ x. m.accepts x.1) (take l.place (m.edges l.state))))
