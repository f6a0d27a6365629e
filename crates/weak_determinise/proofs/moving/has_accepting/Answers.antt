use Rattle.std.proofs.Common.{◌∙◌, sym, refl, ap, get_or, inl, inr}
use Rattle.auto_core.specs.Graph.{graph_machine}
use Rattle.weak_determinise.proofs.Members.{Among-get_or}
use Rattle.weak_determinise.proofs.Once.{true-false}
use Rattle.weak_determinise.proofs.Gathering.{more, default_same}
use Rattle.weak_determinise.proofs.moving.has_accepting.Goals as goal

pub returns-then-accepts : goal.returns-then-accepts
returns-then-accepts c = (
  (λ h. (
    get_or c.args.states.now c.loop-state.state-index 0,
    Among-get_or c.args.states.now c.loop-state.state-index _ c.loop-state-test.true (sym (default_same
        c.args.states.now c.loop-state.state-index 0 c.loop-state-test.true)),
    sym c.accepts.ensures ∙ c.if-accepts.true,
  )),
  (λ h. refl),
)

pub loop-state-preserved : goal.loop-state-preserved
loop-state-preserved c t h accepts =
    elim ((more c.args.states.now c.loop-state.state-index (get_or c.args.states.now c.loop-state.state-index 0)
    c.loop-state-test.true (default_same c.args.states.now c.loop-state.state-index 0 c.loop-state-test.true) t).0
    h) [
      | inl e ↦ true-false (sym accepts ∙ ap (graph_machine c.args.table.now).accepts e ∙ sym c.accepts.ensures ∙
          c.if-accepts.false)
      | inr k ↦ c.loop-state.invariant t k accepts
    ]
