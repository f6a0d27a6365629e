use Rattle.std.proofs.Common.{ℕ, List, length, ◌≤◌, arith, ap}
use Rattle.std.specs.Prelude.{filter, ◌==◌}
use Rattle.std.proofs.lemmas.List.{length-map}
use Rattle.std.proofs.lemmas.List.Sums.{length-filter, count_by-le-length}
use Rattle.auto_core.specs.declared.labels.Literal.{Literal}
use Rattle.auto_core.specs.declared.tables.Edge.{Edge}
use Rattle.auto_core.specs.Graph.{Graph, edges_from}
use Rattle.auto_core.proofs.tables.Table.edges.Goals as goal

few_from : (edges : List Edge) (n : ℕ) → length (edges_from n edges) ≤ length edges
few_from edges n =
    omega (
      arith,
      length-map {B = List Literal × ℕ} (filter (λ e. e.from == n) edges) (λ e. (e.label, e.to)),
      length-filter (λ e. e.from == n) edges,
      count_by-le-length (λ e. e.from == n) edges,
    )

pub returns-clause-few : goal.returns-clause-few
returns-clause-few c =
    let edges = c.args.self.now.edges in
    let listed = ap (λ (es : List Edge). length es) c.as_slice.ensures.keys in
    let viewed = ap (λ (g : Graph). length g.edges) c.self.view_is in
    let few : (n : ℕ) → length (edges_from n edges) ≤ length c.as_slice.result.now =
    λ n. omega (arith, few_from edges n, listed, viewed) in
    record { start = few 0; each = λ s below. few s }
