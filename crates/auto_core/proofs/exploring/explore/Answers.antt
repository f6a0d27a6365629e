use Rattle.std.proofs.Common.{sym}
use Rattle.auto_core.proofs.ExploreAll.{all_begun, state_filed_in}
use Rattle.auto_core.proofs.exploring.explore.Goals as goal

pub loop-from-init : goal.loop-from-init
loop-from-init g c = all_begun _ _ _ _ _ _ _ c.requires.begun c.requires.none

pub loop-from-preserved : goal.loop-from-preserved
loop-from-preserved g c = state_filed_in _ _ _ _ c.loop-from.from c.loop-from.seen.states.keys
    c.loop-from.seen.edges.keys c.loop-from.rows.items c.in-Some.state.now
    (record { accepts = c.accepts.result; first = c.len-first.result; end = c.len.result }) _ _ _
    c.in_ok-put_row.ensures.added c.loop-from.invariant (sym c.in-Some.ensures.key)
    c.in_ok-explore_state.ensures.explored c.in_ok-explore_state.ensures.names c.in_ok-explore_state.ensures.edges
    c.accepts.ensures c.len-first.ensures.len c.len.ensures.len
