use Rattle.std.proofs.Common.{◌≡◌, Err}
use Rattle.std.specs.Bool.{Decides}
use Rattle.std.proofs.lemmas.Result.{err_from_is_err_and}
use Rattle.auto_core.specs.declared.exploring.TableError.TheVariants.{TooMany}
use Rattle.auto_core.proofs.Once.{decides_by}
use Rattle.auto_core.proofs.Reaching.{start_seen, start_too_many}
use Rattle.auto_core.proofs.exploring.explore_all.Goals as goal
use Rattle.auto_core.proofs.exploring.explore_all.Given.{Over}

decides : (g : Over) (x y : g.row.A-State.Denot) → Decides (g.A.State.PartialEq.eq x y) (x ≡ y)
decides g = decides_by g.A.State.PartialEq.eq g.met.A.State.Eq.laws g.met.A.Auto.same

pub explore-requires-clause-begun : goal.explore-requires-clause-begun
explore-requires-clause-begun g c = start_seen _ (decides g) _ _ _ c.args.seen.now.states.keys _ _ c.start.result
    c.requires.no_states c.requires.no_edges c.start.ensures.value c.start.ensures.owned
    c.in_ok-number.ensures.room c.in_ok-number.ensures.named

pub returns-in_err-number-clause-too_many : goal.returns-in_err-number-clause-too_many
returns-in_err-number-clause-too_many g c h =
    let p = err_from_is_err_and c.from_residual.result c.from_residual.ensures.1 in
    let q : c.number.result ≡ Err TooMany = cc (c.in_err-number.was, p.1, p.2) in
    start_too_many _ (decides g) (g.A.Auto.own c.args.automaton.now) _ _ c.args.seen.now.states.keys c.start.result
    c.requires.no_states (c.number.ensures.full q)
