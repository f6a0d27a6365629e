use Rattle.std.proofs.Common.{◌≡◌, ◌⊎◌, inr, ◌≤◌, Option, Some, None, Result, Ok, Err, MatchResult}
use Rattle.std.proofs.Common.{length, map, ap, sym, ◌∙◌, arith}
use Rattle.std.proofs.lemmas.List.{length-map}
use Rattle.psl_grammar.specs.UnitView.{item_of}
use Rattle.unit_rules.specs.declared.errors.UnitError.{UnitError}
use Rattle.unit_rules.specs.declared.errors.UnitError.TheVariants.{OutOfMemory}
use Rattle.unit_rules.specs.Source.{source}
use Rattle.unit_rules.specs.inner.Reckoned.{reckoned_items, no_numbers}
use Rattle.unit_rules.proofs.LimitsOfUnits.{limits_of_measures, few_measures}
use Rattle.unit_rules.proofs.limits.check_limits.Goals as goal

carried : {T : Type 0} (r : Result T UnitError) (o p : Option UnitError) → o ≡ p
    → MatchResult r (λ _. o ≡ None) (λ f. o ≡ Some f)
    → MatchResult r (λ _. p ≡ None) (λ f. (f ≡ OutOfMemory) ⊎ (p ≡ Some f))
carried (Ok v) o p e h = sym e ∙ h
carried (Err f) o p e h = inr (sym e ∙ h)

pub returns-in-Ok : goal.returns-in-Ok
returns-in-Ok c =
    carried c.check_measures.result _ _
    (limits_of_measures (source c.args.text.now c.args.tokens.now) (map item_of c.args.items.now) c.as_slice.result.now
    (c.as_slice.ensures.value ∙ c.in-Ok.ensures))
    c.check_measures.ensures

pub check_measures-requires : goal.check_measures-requires
check_measures-requires c =
    let s = source c.args.text.now c.args.tokens.now in
    let raws = map item_of c.args.items.now in
    let same : length c.as_slice.result.now ≡ length (reckoned_items s no_numbers raws) =
    ap length (c.as_slice.ensures.value ∙ c.in-Ok.ensures) in
    let few : length (reckoned_items s no_numbers raws) ≤ length raws = few_measures s no_numbers raws in
    omega (arith, length-map c.args.items.now item_of)
