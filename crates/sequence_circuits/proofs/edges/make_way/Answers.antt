use Rattle.std.proofs.Common.{◌≡◌, ℕ, List, ap, ◌∙◌, subst}
use Rattle.auto_core.specs.declared.labels.Literal.{Literal}
use Rattle.auto_core.specs.LiteralSets.{IsLabel, put_all}
use Rattle.sequence_circuits.specs.declared.edges.Way.{Way}
use Rattle.sequence_circuits.proofs.edges.make_way.Goals as goal

abbrev way_with : ℕ → List Literal → Way
way_with to label = record { label = label; to = to }

pub returns : goal.returns
returns c =
    let label = c.args.edge.now.label in
    let ordered : IsLabel label =
    subst IsLabel c.literals-literals.ensures.value c.literals-literals.ensures.ordered in
    let whole : c.put_all.new.self ≡ label =
    c.in_ok-put_all.ensures.ok ∙ ap (put_all label) c.new-label.ensures
    ∙ c.a_union_has_the_literals_of_both.ensures.itself label ordered in
    ap (way_with c.args.edge.now.to) whole
