use Rattle.std.proofs.Common.{◌≡◌, ◌<◌, true, List, All, sym, ◌∙◌, subst}
use Rattle.first_failure.specs.declared.automaton.FailRow.{FailRow}
use Rattle.sequence_examples.proofs.Below.{asked}
use Rattle.sequence_examples.proofs.tables.are_asked.Goals as goal

pub returns : goal.returns
returns c h =
    subst (λ (rs : List FailRow). All (λ r. All (λ s. s < c.args.count) r.symbols) rs) c.as_slice.ensures
    (asked c.args.count c.as_slice.result.now (sym c.all_asked.ensures ∙ h))
