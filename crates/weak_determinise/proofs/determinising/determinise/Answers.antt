use Rattle.std.proofs.Common.{subst, All, length, ◌<◌}
use Rattle.weak_determinise.proofs.Done.{are_reached, small_enough}
use Rattle.weak_determinise.proofs.determinising.determinise.Goals as goal

pub returns-clause-sets : goal.returns-clause-sets
returns-clause-sets c = let (from, none, part) = c.in_ok-expand.ensures.all in
    are_reached c.args.table.now (subst (All (λ e. e.from < length c.args.table.now.accepting × e.to < length
    c.args.table.now.accepting)) c.edges-edges.ensures.value c.edges-edges.ensures.between) _ _ _ from _ _ part none

pub returns-clause-few : goal.returns-clause-few
returns-clause-few c = let (from, none, part) = c.in_ok-expand.ensures.all in
    small_enough c.args.table.now (subst (All (λ e. e.from < length c.args.table.now.accepting × e.to < length
    c.args.table.now.accepting)) c.edges-edges.ensures.value c.edges-edges.ensures.between) _ _ _ from _ _ part none
