use Rattle.std.proofs.Common.{◌∙◌, sym, subst, List, ℕ, Some}
use Rattle.auto_core.specs.Machine.{Passes, value_in}
use Rattle.weak_determinise.specs.inner.Among.{Among}
use Rattle.weak_determinise.specs.inner.Stepping.{AddsMarks}
use Rattle.weak_determinise.proofs.Once.{true-false}
use Rattle.weak_determinise.proofs.MarkedTargets.{row_marked, row_left}
use Rattle.weak_determinise.proofs.marking.mark_row.Goals as goal

pub returns-then-holds : goal.returns-then-holds
returns-then-holds c = row_marked (Passes c.args.label.now (Some (value_in c.args.bits.now))) c.args.row.now _ _
    (c.holds.ensures.0 c.if-holds.true)
    (subst (λ (s : List ℕ). AddsMarks (Among s) c.args.marks.now.items c.mark_all.new.marks.items) c.as_slice.ensures
    c.mark_all.ensures)

pub returns-else-holds : goal.returns-else-holds
returns-else-holds c = row_left (Passes c.args.label.now (Some (value_in c.args.bits.now))) c.args.row.now
    c.args.marks.now.items (λ p. true-false (sym (c.holds.ensures.1 p) ∙ c.if-holds.false))
