use Rattle.auto_core.proofs.ExploreState.{IsInState}
use Rattle.auto_core.proofs.exploring.explore_state.Given as goal

abbrev pub invariant-loop-place : goal.invariant-loop-place
invariant-loop-place g l = IsInState g.A.State.PartialEq.eq (g.A.Auto.own l.automaton)
    (g.A.Auto.machine l.automaton) l.limit l.fn.seen.states.keys l.fn.seen.edges.keys l.state l.from l.place
    l.seen.states.keys l.seen.edges.keys
