use Rattle.std.proofs.Common.{◌≡◌, Err}
use Rattle.std.proofs.lemmas.Result.{err_from_is_err_and}
use Rattle.auto_core.specs.Graph.{graph_machine}
use Rattle.weak_determinise.specs.declared.sets.DetError.TheVariants.{TooLarge}
use Rattle.weak_determinise.proofs.Done.{none_allowed, begun}
use Rattle.weak_determinise.proofs.determinising.begin.Goals as goal

pub returns-in_err-_number-in-Ok-clause-too_large : goal.returns-in_err-_number-in-Ok-clause-too_large
returns-in_err-_number-in-Ok-clause-too_large c h =
    let p = err_from_is_err_and c.from_residual.result c.from_residual.ensures.1 in
    let q : c.number.result ≡ Err TooLarge = cc (c.in_err-_number-in-Ok.was, p.1, p.2) in
    none_allowed (graph_machine c.args.table.now) 0 c.args.limit c.args.max_symbols c.args.seen.now.keys
    c.in-Ok.places.items c.requires (c.number.ensures.full q)

pub returns-in_ok-_number-in-Ok-clause-part : goal.returns-in_ok-_number-in-Ok-clause-part
returns-in_ok-_number-in-Ok-clause-part c = begun (graph_machine c.args.table.now) _ c.args.limit c.args.max_symbols
    c.args.seen.now.keys _ c.start.result c.in-Ok.places.items c.requires c.in-Ok.ensures.items c.start.ensures.value
    c.start.ensures.owned
    c.in_ok-_number-in-Ok.ensures.room c.in_ok-_number-in-Ok.ensures.named
