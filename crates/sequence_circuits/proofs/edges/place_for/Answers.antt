use Rattle.std.proofs.Common.{◌≡◌, List, Some, slice_get, sym, ap, ◌∙◌}
use Rattle.std.proofs.lemmas.Option.{slice_get_within}
use Rattle.sequence_circuits.specs.declared.edges.Way.{Way}
use Rattle.sequence_circuits.proofs.Ways.{same_ways, put_new, put_known, not_false, not_true}
use Rattle.sequence_circuits.proofs.edges.place_for.Goals as goal

pub returns-clause-new : goal.returns-clause-new
returns-clause-new c e =
    put_new c.args.ways.now.keys c.args.way c.insert_full.new.self.keys c.in_ok-place.ensures.keys
    (not_false _ c.in_ok-place.is_new e c.in_ok-place.ensures.added)

pub returns-clause-known : goal.returns-clause-known
returns-clause-known c e =
    let same : c.insert_full.new.self.keys ≡ c.args.ways.now.keys =
    put_known c.args.ways.now.keys c.args.way c.insert_full.new.self.keys c.in_ok-place.ensures.keys
    (not_true _ c.in_ok-place.is_new e c.in_ok-place.ensures.added) in
    let stored = c.in_ok-place.ensures.stored in (
      same,
      ap (λ (ws : List Way). slice_get ws c.in_ok-place.place) (sym same) ∙ stored.1
          ∙ ap (λ (w : Way). Some w) (sym (same_ways c.args.way stored.0 stored.2)),
    )

pub returns-clause-within : goal.returns-clause-within
returns-clause-within c e =
    slice_get_within c.args.ways.now.keys c.in_ok-place.place c.args.way (returns-clause-known c e).1
