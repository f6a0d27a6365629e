use Rattle.std.proofs.Common.{◌≡◌, Err, subst, All, length, ◌<◌}
use Rattle.std.proofs.lemmas.Result.{err_from_is_err_and, on_ok_weaker}
use Rattle.weak_determinise.proofs.Once.{Among-slice_get}
use Rattle.weak_determinise.specs.declared.sets.DetError.TheVariants.{TooLarge}
use Rattle.weak_determinise.proofs.Preparing.{too_large_after, set_expanded}
use Rattle.weak_determinise.proofs.determinising.expand_set.Goals as goal

pub prepare-requires-clause-owned : goal.prepare-requires-clause-owned
prepare-requires-clause-owned c = c.requires.part.owned c.args.places.now (Among-slice_get c.args.seen.now.keys
    c.args.from c.args.places.now c.requires.there)

pub returns-in_err-node-in-Ok-clause-too_large : goal.returns-in_err-node-in-Ok-clause-too_large
returns-in_err-node-in-Ok-clause-too_large c h =
    let p = err_from_is_err_and c.from_residual.result c.from_residual.ensures.1 in
    let q : c.node_from.result ≡ Err TooLarge = cc (c.in_err-node-in-Ok.was, p.1, p.2) in
    too_large_after c.args.table.now (subst (All (λ e. e.from < length c.args.table.now.accepting × e.to < length
    c.args.table.now.accepting)) c.edges-edges.ensures.value c.edges-edges.ensures.between)
    c.args.limit c.args.max_symbols c.args.from c.args.seen.now.keys c.args.nodes.now c.args.places.now c.requires.part
    c.requires.there (c.node_from.ensures.too_large q)

pub returns-in_ok-node-in-Ok-clause-part : goal.returns-in_ok-node-in-Ok-clause-part
returns-in_ok-node-in-Ok-clause-part c = on_ok_weaker c.push_node.result (λ pushed.
    set_expanded c.args.table.now (subst (All (λ e. e.from < length c.args.table.now.accepting × e.to < length
    c.args.table.now.accepting)) c.edges-edges.ensures.value c.edges-edges.ensures.between)
    c.args.limit c.args.max_symbols c.args.from c.args.seen.now.keys _ c.args.nodes.now _ c.args.places.now _
    c.requires.part c.requires.there c.in_ok-node-in-Ok.ensures.widens c.in_ok-node-in-Ok.ensures.node pushed)
    c.push_node.ensures.pushed
