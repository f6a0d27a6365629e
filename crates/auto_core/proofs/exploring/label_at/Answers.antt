use Rattle.std.proofs.Common.{◌≡◌, ◌∙◌, sym, ap, Some, List}
use Rattle.auto_core.specs.declared.labels.Literal.{Literal}
use Rattle.auto_core.specs.LiteralSets.{put_all}
use Rattle.auto_core.proofs.LabelLemmas.{put_all-nil}
use Rattle.auto_core.proofs.exploring.label_at.Goals as goal

pub returns-in-Ok-clause-label : goal.returns-in-Ok-clause-label
returns-in-Ok-clause-label g c =
    let (label, next, there, (ordered, same)) = c.in-Ok.ensures.edge in
    let whole : c.label.new.onto ≡ label = same ∙ ap (put_all label) c.new-label.ensures ∙ put_all-nil label ordered in
    (next, there ∙ ap (λ (l : List Literal). Some (l, next)) (sym whole))
