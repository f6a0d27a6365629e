use Rattle.std.proofs.Common.{◌∙◌, ◌+◌, sym, subst, List, ℕ, ap}
use Rattle.weak_determinise.specs.inner.Stepping.{AreMarked}
use Rattle.weak_determinise.proofs.Once.{true-false}
use Rattle.weak_determinise.proofs.MarkedTargets.{one_marked, one_unmarked}
use Rattle.weak_determinise.proofs.marking.marked.Goals.{then-is_marked+in_ok-push, else-is_marked}
use Rattle.weak_determinise.proofs.marking.marked.Goals as goal

pub loop-state-preserved : goal.loop-state-preserved
loop-state-preserved c = elim c.if-is_marked.branch [
  | then-is_marked+in_ok-push w ↦
      subst (λ (s : List ℕ). AreMarked c.args.marks.now (c.loop-state.state + 1) s) (ap (λ (v : _). v.items)
      (sym w.next-is))
      (one_marked c.args.marks.now c.loop-state.state c.loop-state.next.items _ c.loop-state.invariant
      (sym c.is_marked.ensures ∙ w.if-is_marked.true) w.in_ok-push.ensures.items)
  | else-is_marked w ↦
      subst (λ (s : List ℕ). AreMarked c.args.marks.now (c.loop-state.state + 1) s) (ap (λ (v : _). v.items)
      (sym w.next-is))
      (one_unmarked c.args.marks.now c.loop-state.state c.loop-state.next.items c.loop-state.invariant
      (λ h. true-false (sym h ∙ sym c.is_marked.ensures ∙ w.if-is_marked.false)))
]
