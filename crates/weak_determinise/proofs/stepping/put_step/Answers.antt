use Rattle.std.proofs.Common.{◌∙◌, sym, ap}
use Rattle.auto_core.specs.Graph.{graph_machine}
use Rattle.auto_core.specs.LiteralSets.{put_all}
use Rattle.weak_determinise.proofs.Gathering.{step_found}
use Rattle.weak_determinise.proofs.stepping.put_step.Goals as goal

pub returns-in_ok-put_target-clause-takes : goal.returns-in_ok-put_target-clause-takes
returns-in_ok-put_target-clause-takes c =
    let (label, there) = c.target-to.ensures.edge in
    let (label2, next, there2, both) = c.in_ok-label.ensures.edge in
    step_found (graph_machine c.args.table.now) c.args.state c.args.place label label2 c.label.new.onto
    c.target-to.result next _ _ there there2
    (both.1 ∙ ap (put_all label2) c.new-label.ensures ∙ c.a_union_has_the_literals_of_both.ensures.itself label2 both.0)
    ((c.requires.marked.alive c.target-to.result c.target-to.ensures.owned).0 (sym c.get.ensures ∙ c.if-get.true))
    c.in_ok-put_target.ensures.put
