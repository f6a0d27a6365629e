use Rattle.std.proofs.Common.{◌∙◌, ◌+◌, sym, subst, ℕ, List}
use Rattle.auto_core.specs.Graph.{graph_machine, edges_from}
use Rattle.auto_core.specs.inner.Lasts.{ListsLasts}
use Rattle.auto_core.proofs.Lasts.{one_more, none_more}
use Rattle.auto_core.proofs.indexed.put_last.Goals as goal

pub returns-in_ok-push : goal.returns-in_ok-push
returns-in_ok-push c =
    let table = c.args.table.now in
    let edge = c.target-next.ensures.edge in
    subst (λ (s : List ℕ). ListsLasts table c.args.state (c.args.place + 1) s) (sym c.in_ok-push.ensures.items)
    (one_more (λ x. (graph_machine table).accepts x.1) (edges_from c.args.state table.edges) c.args.place
    (edge.0, c.target-next.result) c.args.places.now.items edge.1 c.requires.before
    (sym c.accepts.ensures ∙ c.if-accepts.true))

pub returns-else-accepts : goal.returns-else-accepts
returns-else-accepts c =
    let table = c.args.table.now in
    let edge = c.target-next.ensures.edge in
    none_more (λ x. (graph_machine table).accepts x.1) (edges_from c.args.state table.edges) c.args.place
    (edge.0, c.target-next.result) c.args.places.now.items edge.1 c.requires.before
    (sym c.accepts.ensures ∙ c.if-accepts.false)
