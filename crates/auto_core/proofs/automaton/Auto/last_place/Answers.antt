use Rattle.std.proofs.Common.{true, false, slice_get, arith, sym, ap, ◌∙◌}
use Rattle.auto_core.specs.Edges.{last_edges}
use Rattle.auto_core.proofs.Filtered.{counted_more, filtered_at}
use Rattle.auto_core.proofs.automaton.Auto.last_place.Goals as goal
use Rattle.auto_core.proofs.automaton.Auto.last_place.Goals.{then-accepts+else-seen-rank, else-accepts}

pub returns-then-seen-rank-clause-same : goal.returns-then-seen-rank-clause-same
returns-then-seen-rank-clause-same g c =
    let m = g.Self.Auto.machine c.args.self.now in
    let edge = c.target-next.ensures.edge in
    let passed = sym c.accepts.ensures ∙ c.if-accepts.true in
    let found =
    filtered_at (λ x. m.accepts x.1) (m.edges c.args.state) c.loop-place.place (edge.0, c.target-next.result) edge.1
    passed in
    edge.1 ∙ sym found
    ∙ ap (λ n. slice_get (last_edges m c.args.state) n) (sym c.loop-place.invariant.1 ∙ c.if-seen-rank.true)

pub loop-place-preserved : goal.loop-place-preserved
loop-place-preserved g c =
    let m = g.Self.Auto.machine c.args.self.now in
    let edge = c.target-next.ensures.edge in
    elim c.if-accepts.branch [
      | then-accepts+else-seen-rank w ↦ (
        omega arith,
        counted_more (λ x. m.accepts x.1) (m.edges c.args.state) c.loop-place.place (edge.0, c.target-next.result) true
            c.loop-place.seen c.if-accepts.seen edge.1 (sym c.accepts.ensures ∙ w.if-accepts.true)
            c.loop-place.invariant.1 w.seen-is,
      )
      | else-accepts w ↦ (
        omega arith,
        counted_more (λ x. m.accepts x.1) (m.edges c.args.state) c.loop-place.place (edge.0, c.target-next.result) false
            c.loop-place.seen c.if-accepts.seen edge.1 (sym c.accepts.ensures ∙ w.if-accepts.false)
            c.loop-place.invariant.1 (omega (arith, w.seen-is)),
      )
    ]
