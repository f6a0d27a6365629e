use Rattle.std.proofs.Common.{◌≡◌, ◌<◌, true, List, All, sym, ◌∙◌, subst}
use Rattle.auto_core.specs.declared.tables.Edge.{Edge}
use Rattle.sequence_examples.proofs.Below.{guarded}
use Rattle.sequence_examples.proofs.tables.are_guarded.Goals as goal

pub returns : goal.returns
returns c h =
    subst (λ (es : List Edge). All (λ e. All (λ l. l.symbol < c.args.count) e.label) es) c.edges.ensures.value
    (guarded c.args.count c.edges.result.now (sym c.all_guarded.ensures ∙ h))
