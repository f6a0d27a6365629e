use Rattle.std.proofs.Common.{◌≡◌, ◌<◌, ◌^◌, arith}
use Rattle.std.specs.Bool.{Decides}
use Rattle.auto_core.proofs.Once.{decides_by}
use Rattle.auto_core.proofs.Reaching.{few_reached, filed_all, graph_all}
use Rattle.auto_core.proofs.Parts.{reached_part}
use Rattle.auto_core.proofs.Words.{same_words}
use Rattle.auto_core.proofs.exploring.materialise.Goals as goal
use Rattle.auto_core.proofs.exploring.materialise.Given.{Over}

decides : (g : Over) (x y : g.row.A-State.Denot) → Decides (g.A.State.PartialEq.eq x y) (x ≡ y)
decides g = decides_by g.A.State.PartialEq.eq g.met.A.State.Eq.laws g.met.A.Auto.same

pub from_rows-requires : goal.from_rows-requires
from_rows-requires g c =
    let fits : c.args.limit < 2 ^ 32 = omega (arith, c.ranges.limit.fits) in
    filed_all _ (decides g) _ _ _ _ _ c.in_ok-explore_all.ensures.explored _ c.in_ok-explore_all.ensures.filed
    c.in_ok-explore_all.ensures.all fits

pub returns-clause-few : goal.returns-clause-few
returns-clause-few g c = few_reached _ (decides g) _ _ _ _ _ c.in_ok-explore_all.ensures.explored

pub returns-clause-same_part : goal.returns-clause-same_part
returns-clause-same_part g c =
    let graph =
    graph_all _ (decides g) _ _ _ _ _ c.in_ok-explore_all.ensures.explored _ c.from_rows.result
    c.in_ok-explore_all.ensures.filed c.in_ok-explore_all.ensures.all c.from_rows.ensures.accepting
    c.from_rows.ensures.edges in
    (c.explore_all.new.seen.states.keys, graph.owned, reached_part _ (decides g) _ _ _ _ graph)

pub returns-clause-same_words : goal.returns-clause-same_words
returns-clause-same_words g c w =
    let part = returns-clause-same_part g c in same_words _ part.0 _ part.2 w
