use Rattle.std.proofs.Common.{true, false, arith, sym, ◌∙◌}
use Rattle.auto_core.proofs.Filtered.{counted_more}
use Rattle.auto_core.proofs.automaton.Auto.last_count.Goals as goal
use Rattle.auto_core.proofs.automaton.Auto.last_count.Goals.{then-accepts, else-accepts}

pub loop-place-preserved : goal.loop-place-preserved
loop-place-preserved g c =
    let m = g.Self.Auto.machine c.args.self.now in
    let edge = c.target-next.ensures.edge in
    elim c.if-accepts.branch [
      | then-accepts w ↦ (
        omega arith,
        counted_more (λ x. m.accepts x.1) (m.edges c.args.state) c.loop-place.place (edge.0, c.target-next.result) true
            c.loop-place.count c.if-accepts.count edge.1 (sym c.accepts.ensures ∙ w.if-accepts.true)
            c.loop-place.invariant.1 w.count-is,
      )
      | else-accepts w ↦ (
        omega arith,
        counted_more (λ x. m.accepts x.1) (m.edges c.args.state) c.loop-place.place (edge.0, c.target-next.result) false
            c.loop-place.count c.if-accepts.count edge.1 (sym c.accepts.ensures ∙ w.if-accepts.false)
            c.loop-place.invariant.1 (omega (arith, w.count-is)),
      )
    ]
