use Rattle.std.proofs.Common.{◌≡◌, sym, subst, List, ℕ, ◌∷◌, [], get_or, set, true, false, arith}
use Rattle.auto_core.specs.inner.Searching.{Spreads}
use Rattle.auto_core.proofs.Marking.{spread_new}
use Rattle.auto_core.proofs.aliveness.mark.Goals as goal

pub returns-in_ok-push : goal.returns-in_ok-push
returns-in_ok-push c =
    let off : get_or c.args.marked.now.items c.args.state false ≡ false =
    grind (arith, c.index.ensures, c.if-not-index.true) in
    subst (λ (s : List ℕ). Spreads (c.args.state ∷ []) c.args.marked.now.items c.args.work.now.items
    (set c.args.marked.now.items c.args.state true) s) (sym c.in_ok-push.ensures.items)
    (spread_new c.args.marked.now.items c.args.work.now.items c.args.state c.requires off)
