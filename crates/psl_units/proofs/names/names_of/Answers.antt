use Rattle.std.proofs.Common.{◌≡◌, ◌+◌, suc, refl, sym, ◌∙◌, subst, arith, length}
use Rattle.std.proofs.lemmas.Option.{slice_get_read}
use Rattle.unit_rules.specs.Source.{source}
use Rattle.psl_units.specs.inner.Places.{PlainNames, plain_names}
use Rattle.psl_units.specs.inner.Scopes.{AreNames}
use Rattle.psl_units.proofs.ScopeLemmas.{names_step}
use Rattle.psl_units.proofs.names.names_of.Goals as goal

pub loop-place-preserved : goal.loop-place-preserved
loop-place-preserved c =
    let P : PlainNames → Type 0
    = λ names. AreNames (source c.args.text.now c.args.tokens.now) c.args.items.now
    (c.loop-place.place + 1) names in
    subst P (sym c.in_ok-take_in.ensures)
    (names_step (source c.args.text.now c.args.tokens.now) c.args.items.now c.loop-place.place
    c.index-items-place.result
    (plain_names c.loop-place.names) c.requires
    (slice_get_read c.args.items.now (length c.args.items.now) c.loop-place.place c.index-items-place.result refl
    c.loop-place-test.true c.index-items-place.is)
    c.loop-place.invariant)
