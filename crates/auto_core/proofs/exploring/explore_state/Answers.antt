use Rattle.std.proofs.Common.{◌≡◌, Err, length, arith}
use Rattle.std.specs.Bool.{Decides}
use Rattle.std.proofs.lemmas.Result.{err_from_is_err_and}
use Rattle.auto_core.specs.declared.exploring.TableError.TheVariants.{TooMany}
use Rattle.auto_core.proofs.Once.{decides_by}
use Rattle.auto_core.proofs.Steps.{too_many_after}
use Rattle.auto_core.proofs.ExploreState.{state_begun, state_reached, state_taken, state_done}
use Rattle.auto_core.proofs.exploring.explore_state.Goals as goal
use Rattle.auto_core.proofs.exploring.explore_state.Given.{Over}

decides : (g : Over) (x y : g.row.A-State.Denot) → Decides (g.A.State.PartialEq.eq x y) (x ≡ y)
decides g = decides_by g.A.State.PartialEq.eq g.met.A.State.Eq.laws g.met.A.Auto.same

pub loop-place-init : goal.loop-place-init
loop-place-init g c = state_begun _ (decides g) _ _ _ _ _ _ _ c.requires.explored

pub loop-place-preserved : goal.loop-place-preserved
loop-place-preserved g c = state_taken _ (decides g) _ _ _ _ _ _ _ _ _ _ _ _ c.requires.named c.loop-place.invariant
    c.in_ok-take_edge.ensures.taken

pub returns-in_err-take_edge-clause-too_many : goal.returns-in_err-take_edge-clause-too_many
returns-in_err-take_edge-clause-too_many g c h =
    let p = err_from_is_err_and c.from_residual.result c.from_residual.ensures.1 in
    let q : c.take_edge.result ≡ Err TooMany = cc (c.in_err-take_edge.was, p.1, p.2) in
    too_many_after _ (decides g) _ _ _ _ _ _ _ _ c.loop-place.invariant.explored
    (state_reached _ (decides g) _ _ _ _ _ _ _ _ _ _ c.requires.named c.loop-place.invariant)
    (c.take_edge.ensures.too_many q)

pub returns-clause-explored : goal.returns-clause-explored
returns-clause-explored g c =
    let all : c.loop-place.place ≡ length ((g.A.Auto.machine c.args.automaton.now).edges c.args.state) =
    omega (arith, c.edge_count-place-end.ensures, c.loop-place.auto.place-end, c.loop-place-test.false) in
    state_done _ (decides g) _ _ _ _ _ _ _ _ _ _ all c.requires.named c.loop-place.invariant
