use Rattle.std.proofs.Common.{◌≡◌, Err}
use Rattle.std.proofs.lemmas.Result.{err_from_is_err_and}
use Rattle.weak_determinise.specs.declared.sets.DetError.TheVariants.{TooLarge}
use Rattle.weak_determinise.proofs.Done.{made_of, ok_any, many_leave, full_at, widened, node_at}
use Rattle.weak_determinise.proofs.determinising.node_from.Goals as goal

pub returns-then-symbols-max_symbols-clause-too_large : goal.returns-then-symbols-max_symbols-clause-too_large
returns-then-symbols-max_symbols-clause-too_large c h = many_leave _ _ c.args.limit c.args.max_symbols c.args.places.now
    _ _ c.requires.prepared _ _ c.as_slice-symbols.ensures.value c.if-symbols-max_symbols.true

pub returns-in_err-moves-clause-too_large : goal.returns-in_err-moves-clause-too_large
returns-in_err-moves-clause-too_large c h =
    let p = err_from_is_err_and c.from_residual.result c.from_residual.ensures.1 in
    let q : c.moves_of.result ≡ Err TooLarge = cc (c.in_err-moves.was, p.1, p.2) in
    full_at _ _ c.args.limit c.args.max_symbols c.args.places.now _ _ c.requires.prepared _ _
    c.as_slice-symbols.ensures.value (c.moves_of.ensures.full q)

pub returns-clause-widens : goal.returns-clause-widens
returns-clause-widens c = ok_any _ c.made.result (widened _ _ c.args.limit c.args.max_symbols c.args.places.now _ _
    c.requires.prepared _ _ _ _ c.as_slice-symbols.ensures.value c.in_ok-moves.ensures.moves)

pub returns-clause-node : goal.returns-clause-node
returns-clause-node c = made_of _ _ _ _ c.made.result c.made.ensures.places c.made.ensures.leaving c.made.ensures.moves
    (λ node places leaving moves. node_at _ _ c.args.limit c.args.max_symbols c.args.places.now _ _ c.requires.prepared
    _ _ _ _ c.as_slice-symbols.ensures.value c.if-symbols-max_symbols.false c.in_ok-moves.ensures.moves node places
    leaving moves)
