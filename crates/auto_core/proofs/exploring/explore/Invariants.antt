use Rattle.auto_core.proofs.ExploreAll.{IsPartWay}
use Rattle.auto_core.proofs.exploring.explore.Given as goal

abbrev pub invariant-loop-from : goal.invariant-loop-from
invariant-loop-from g l = IsPartWay g.A.State.PartialEq.eq (g.A.Auto.own l.automaton) (g.A.Auto.machine l.automaton)
    l.limit l.from l.seen.states.keys l.seen.edges.keys l.rows.items
