use Rattle.std.proofs.Common.{◌∙◌, ◌+◌, ℕ, sym, refl, subst, arith, None, replicate}
use Rattle.auto_core.specs.Machine.{AcceptsFrom}
use Rattle.auto_core.specs.Graph.{graph_machine}
use Rattle.auto_core.proofs.Tops.{all_dead, some_accepted}
use Rattle.auto_core.proofs.contradicting.contradiction.Goals as goal

pub returns-then-get : goal.returns-then-get
returns-then-get c =
    let (label, at) = c.target.ensures.edge in
    let alive = (c.requires.alive c.target.result c.target.ensures.owned).0 (sym c.get.ensures ∙ c.if-get.true) in (
      (λ h. absurd (let e = h in cc)),
      (λ never. absurd (some_accepted (graph_machine c.args.table.now) c.start-start.result c.loop-place.place label
          c.target.result at alive
          (λ n. subst (λ (s : ℕ). AcceptsFrom (graph_machine c.args.table.now) s (replicate (n + 1) None) →
          ⊥) (sym c.start-start.ensures.value) (never n)))),
    )

pub returns : goal.returns
returns c = (
  (λ h n. subst (λ (s : ℕ). AcceptsFrom (graph_machine c.args.table.now) s (replicate (n + 1) None) →
      ⊥) c.start-start.ensures.value
      (all_dead (graph_machine c.args.table.now) c.start-start.result c.loop-place.place c.loop-place.invariant (omega
      (arith, c.edge_count-place-end.ensures, c.loop-place.auto.place-end, c.loop-place-test.false)) n)),
  (λ h. refl),
)
