use Rattle.std.proofs.Common.{rules, ◌≡◌, ℕ, ◌+◌, List, refl, sym, ap, subst, arith}
use Rattle.psl_model.specs.View.{expr_of, sere_of}
use Rattle.psl_rewrite.specs.View.{base_of}
use Rattle.psl_rewrite.specs.Base as base
use Rattle.psl_rewrite.specs.Base.{Base}
use Rattle.sequence_matches.specs.Growth.{GrowsWithin}
use Rattle.formula_limits.specs.Registers.{registers_of}
use Rattle.sequence_cores.specs.Places.{places_of, told}
use Rattle.formula_limits.specs.Places.{AreSmall}
use Rattle.property_circuits.specs.Conditions.{IsBuilt, HasGuards}
use Rattle.property_circuits.specs.Told.{IsTold}
use Rattle.property_circuits.proofs.Small.{small_right, small_behind}
use Rattle.property_circuits.proofs.Telling.{both_told, behind_told}
use Rattle.property_circuits.proofs.Gating.{through_gate, grows_through}
use Rattle.property_circuits.proofs.checks.+check_variant.Goals as goal

-- ---- And

pub check_variant-requires-in-And : goal.check_variant-requires-in-And
check_variant-requires-in-And t c =
    let f = base_of c.get.result.now in
    let g = base_of c.get-in-And.result.now in
    let is : base_of c.args.base.now ≡ base.and f g =
    cc (ap base_of c.in-And.is, c.get.ensures.whole_tree, c.get-in-And.ensures.whole_tree) in
    let built : IsBuilt (base.and f g) = subst IsBuilt is c.requires.built in
    let small : AreSmall g = small_right f g (subst AreSmall is c.requires.small) in
    let guards : HasGuards c.args.net.now.widths (base.and f g) =
    subst (λ (h : Base). HasGuards c.args.net.now.widths h) is c.requires.guards in
    let now : HasGuards c.check_variant.new.net.widths g =
    subst (λ (ws : List ℕ). HasGuards ws g) (sym c.in_ok-one-in-And.ensures.kept.widths) guards.1 in
    (search rules, (built.1, (small, (now, search rules))))

pub returns-in_ok-check-in-And-clause-grows : goal.returns-in_ok-check-in-And-clause-grows
returns-in_ok-check-in-And-clause-grows t c =
    let m0 = c.args.net.now in
    let m3 = c.join.new.net in
    let f = base_of c.get.result.now in
    let g = base_of c.get-in-And.result.now in
    let is : base_of c.args.base.now ≡ base.and f g =
    cc (ap base_of c.in-And.is, c.get.ensures.whole_tree, c.get-in-And.ensures.whole_tree) in
    let twice = c.growths_within_join.ensures.twice in
    let whole : GrowsWithin m0 m3 (registers_of f + registers_of g + 0) =
    twice m0 c.check_variant-in-And.new.net m3 (registers_of f + registers_of g) 0
    (twice m0 c.check_variant.new.net c.check_variant-in-And.new.net (registers_of f) (registers_of g)
    c.in_ok-one-in-And.ensures.grows c.in_ok-two-in-And.ensures.grows) c.in_ok-check-in-And.ensures.grows in
    let P : ℕ → Type 0 = λ n. GrowsWithin m0 m3 n in
    let counted : registers_of f + registers_of g + 0 ≡ registers_of (base_of c.args.base.now) =
    omega (arith, ap registers_of is) in
    subst P counted whole

pub returns-in_ok-check-in-And-clause-steps : goal.returns-in_ok-check-in-And-clause-steps
returns-in_ok-check-in-And-clause-steps t c =
    let f = base_of c.get.result.now in
    let g = base_of c.get-in-And.result.now in
    let is : base_of c.args.base.now ≡ base.and f g =
    cc (ap base_of c.in-And.is, c.get.ensures.whole_tree, c.get-in-And.ensures.whole_tree) in
    let steps = c.told_sum-steps.result in
    subst (λ (h : Base). IsTold h steps) (sym is)
    (both_told f g c.in_ok-one-in-And.one.steps c.in_ok-two-in-And.two.steps steps c.in_ok-one-in-And.ensures.steps
    c.in_ok-two-in-And.ensures.steps c.told_sum-steps.ensures)

-- ---- Suffix

pub check_variant-requires-in-Suffix : goal.check_variant-requires-in-Suffix
check_variant-requires-in-Suffix t c =
    let r = sere_of c.in-Suffix.sere in
    let f = base_of c.get-in-Suffix.result.now in
    let is : base_of c.args.base.now ≡ base.suffix r f =
    cc (ap base_of c.in-Suffix.is, c.get-in-Suffix.ensures.whole_tree) in
    let built : IsBuilt f = subst IsBuilt is c.requires.built in
    let small : AreSmall f = small_behind r f (subst AreSmall is c.requires.small) in
    let guards : HasGuards c.args.net.now.widths (base.suffix r f) =
    subst (λ (h : Base). HasGuards c.args.net.now.widths h) is c.requires.guards in
    let now : HasGuards c.starts_after.new.net.widths f =
    subst (λ (ws : List ℕ). HasGuards ws f) (sym c.in_ok-found-in-Suffix.ensures.kept.widths) guards.1 in
    (search rules, (built, (small, (now, search rules))))

pub returns-in_ok-each-in-Suffix-clause-grows : goal.returns-in_ok-each-in-Suffix-clause-grows
returns-in_ok-each-in-Suffix-clause-grows t c =
    let m0 = c.args.net.now in
    let m2 = c.check_variant-in-Suffix.new.net in
    let r = sere_of c.in-Suffix.sere in
    let f = base_of c.get-in-Suffix.result.now in
    let is : base_of c.args.base.now ≡ base.suffix r f =
    cc (ap base_of c.in-Suffix.is, c.get-in-Suffix.ensures.whole_tree) in
    let whole : GrowsWithin m0 m2 (places_of r + registers_of f) =
    c.growths_within_join.ensures.twice m0 c.starts_after.new.net m2 (places_of r) (registers_of f)
    c.in_ok-found-in-Suffix.ensures.grows c.in_ok-each-in-Suffix.ensures.grows in
    let P : ℕ → Type 0 = λ n. GrowsWithin m0 m2 n in
    let counted : places_of r + registers_of f ≡ registers_of (base_of c.args.base.now) =
    omega (arith, ap registers_of is) in
    subst P counted whole

pub returns-in_ok-each-in-Suffix-clause-steps : goal.returns-in_ok-each-in-Suffix-clause-steps
returns-in_ok-each-in-Suffix-clause-steps t c =
    let r = sere_of c.in-Suffix.sere in
    let f = base_of c.get-in-Suffix.result.now in
    let is : base_of c.args.base.now ≡ base.suffix r f =
    cc (ap base_of c.in-Suffix.is, c.get-in-Suffix.ensures.whole_tree) in
    let a = c.in_ok-found-in-Suffix.found.steps in
    let b = c.in_ok-each-in-Suffix.each.steps in
    let steps = c.told_sum-steps-in-Suffix.result in
    let sum : steps ≡ told (told a + b) = cc (c.told_sum-steps-in-Suffix.ensures, c.told_count.ensures) in
    subst (λ (h : Base). IsTold h steps) (sym is)
    (behind_told r f a b steps c.in_ok-found-in-Suffix.ensures.steps c.in_ok-each-in-Suffix.ensures.steps sum)

-- ---- Always

pub returns-in_ok-each-in-Always-clause-grows : goal.returns-in_ok-each-in-Always-clause-grows
returns-in_ok-each-in-Always-clause-grows t c =
    let m0 = c.args.net.now in
    let m2 = c.check_variant-in-Always.new.net in
    let f = base_of c.get-in-Always.result.now in
    let is : base_of c.args.base.now ≡ base.always f =
    cc (ap base_of c.in-Always.is, c.get-in-Always.ensures.whole_tree) in
    let whole : GrowsWithin m0 m2 (1 + registers_of f) =
    c.growths_within_join.ensures.twice m0 c.open_starts.new.net m2 1 (registers_of f)
    c.in_ok-begun-in-Always.ensures.grows c.in_ok-each-in-Always.ensures.grows in
    let P : ℕ → Type 0 = λ n. GrowsWithin m0 m2 n in
    let counted : 1 + registers_of f ≡ registers_of (base_of c.args.base.now) = omega (arith, ap registers_of is) in
    subst P counted whole

-- ---- Next

pub returns-in_ok-check-in-Next-clause-grows : goal.returns-in_ok-check-in-Next-clause-grows
returns-in_ok-check-in-Next-clause-grows t c =
    let f = base_of c.get-in-Next.result.now in
    let s = c.in-Next.strong in
    let k = c.in-Next.count in
    let is : base_of c.args.base.now ≡ base.next s k f =
    cc (ap base_of c.in-Next.is, c.get-in-Next.ensures.whole_tree) in
    grows_through c.args.net.now c.later_starts.new.net c.check_variant-in-Next.new.net c.join_waiting.new.net k
    (registers_of f)
    (registers_of (base_of c.args.base.now)) c.growths_within_join.ensures.twice (sym (ap registers_of is))
    c.in_ok-gate-in-Next.ensures.grows c.in_ok-each-in-Next.ensures.grows c.in_ok-check-in-Next.ensures.grows

pub returns-in_ok-check-in-Next-clause-kept : goal.returns-in_ok-check-in-Next-clause-kept
returns-in_ok-check-in-Next-clause-kept t c = (returns-in_ok-check-in-Next-clause-grows t c).kept

pub returns-in_err-check-in-Next-clause-kept : goal.returns-in_err-check-in-Next-clause-kept
returns-in_err-check-in-Next-clause-kept t c =
    let join = c.extensions_join.ensures.twice in
    join _ _ _ c.in_ok-gate-in-Next.ensures.kept (join _ _ _ c.in_ok-each-in-Next.ensures.kept
    c.in_err-check-in-Next.ensures.kept)

pub returns-in_ok-check-in-Next-clause-check : goal.returns-in_ok-check-in-Next-clause-check
returns-in_ok-check-in-Next-clause-check t c =
    let m0 = c.args.net.now in
    let m1 = c.later_starts.new.net in
    let f = base_of c.get-in-Next.result.now in
    let s = c.in-Next.strong in
    let k = c.in-Next.count in
    let gate = c.in_ok-gate-in-Next in
    let each = c.in_ok-each-in-Next in
    let all = c.in_ok-check-in-Next in
    let is : base.next s k f ≡ base_of c.args.base.now =
    cc (ap base_of c.in-Next.is, c.get-in-Next.ensures.whole_tree) in
    let built : IsBuilt f = subst IsBuilt (sym is) c.requires.built in
    through_gate m1 c.check_variant-in-Next.new.net c.join_waiting.new.net m0.widths m1.widths s (base.next s k f)
    (base_of c.args.base.now) f
    c.args.start.0 c.args.clear.0 gate.gate.go.0 gate.gate.pend.0 each.each.check.fail.0 each.each.check.pend.0
    all.check.fail.0 all.check.pend.0
    (λ inputs run h. gate.ensures.one inputs run h m0.widths s f refl built)
    each.ensures.kept all.ensures.kept gate.ensures.kept.widths is each.ensures.check all.ensures.fails
    all.ensures.pends

-- ---- NextAll

pub returns-in_ok-check-in-NextAll-clause-grows : goal.returns-in_ok-check-in-NextAll-clause-grows
returns-in_ok-check-in-NextAll-clause-grows t c =
    let f = base_of c.get-in-NextAll.result.now in
    let s = c.in-NextAll.strong in
    let low = c.in-NextAll.low in
    let high = c.in-NextAll.high in
    let is : base_of c.args.base.now ≡ base.next_all s low high f =
    cc (ap base_of c.in-NextAll.is, c.get-in-NextAll.ensures.whole_tree) in
    grows_through c.args.net.now c.later_starts-in-NextAll.new.net c.check_variant-in-NextAll.new.net
    c.join_waiting-in-NextAll.new.net high (registers_of f)
    (registers_of (base_of c.args.base.now)) c.growths_within_join.ensures.twice (sym (ap registers_of is))
    c.in_ok-gate-in-NextAll.ensures.grows c.in_ok-each-in-NextAll.ensures.grows c.in_ok-check-in-NextAll.ensures.grows

pub returns-in_ok-check-in-NextAll-clause-kept : goal.returns-in_ok-check-in-NextAll-clause-kept
returns-in_ok-check-in-NextAll-clause-kept t c = (returns-in_ok-check-in-NextAll-clause-grows t c).kept

pub returns-in_err-check-in-NextAll-clause-kept : goal.returns-in_err-check-in-NextAll-clause-kept
returns-in_err-check-in-NextAll-clause-kept t c =
    let join = c.extensions_join.ensures.twice in
    join _ _ _ c.in_ok-gate-in-NextAll.ensures.kept (join _ _ _ c.in_ok-each-in-NextAll.ensures.kept
    c.in_err-check-in-NextAll.ensures.kept)

pub returns-in_ok-check-in-NextAll-clause-check : goal.returns-in_ok-check-in-NextAll-clause-check
returns-in_ok-check-in-NextAll-clause-check t c =
    let m0 = c.args.net.now in
    let m1 = c.later_starts-in-NextAll.new.net in
    let f = base_of c.get-in-NextAll.result.now in
    let s = c.in-NextAll.strong in
    let low = c.in-NextAll.low in
    let high = c.in-NextAll.high in
    let gate = c.in_ok-gate-in-NextAll in
    let each = c.in_ok-each-in-NextAll in
    let all = c.in_ok-check-in-NextAll in
    let is : base.next_all s low high f ≡ base_of c.args.base.now =
    cc (ap base_of c.in-NextAll.is, c.get-in-NextAll.ensures.whole_tree) in
    let built : IsBuilt (base.next_all s low high f) = subst IsBuilt (sym is) c.requires.built in
    through_gate m1 c.check_variant-in-NextAll.new.net c.join_waiting-in-NextAll.new.net m0.widths m1.widths s
    (base.next_all s low high f) (base_of c.args.base.now) f
    c.args.start.0 c.args.clear.0 gate.gate.go.0 gate.gate.pend.0 each.each.check.fail.0 each.each.check.pend.0
    all.check.fail.0 all.check.pend.0
    (λ inputs run h. gate.ensures.all inputs run h m0.widths s f built.1)
    each.ensures.kept all.ensures.kept gate.ensures.kept.widths is each.ensures.check all.ensures.fails
    all.ensures.pends

-- ---- Until

pub returns-in_ok-check-in-Until-clause-grows : goal.returns-in_ok-check-in-Until-clause-grows
returns-in_ok-check-in-Until-clause-grows t c =
    let f = base_of c.get-in-Until.result.now in
    let s = c.in-Until.strong in
    let e = expr_of c.in-Until.stop in
    let is : base_of c.args.base.now ≡ base.until s f e =
    cc (ap base_of c.in-Until.is, c.get-in-Until.ensures.whole_tree) in
    grows_through c.args.net.now c.starts_until.new.net c.check_variant-in-Until.new.net
    c.join_waiting-in-Until.new.net 1 (registers_of f)
    (registers_of (base_of c.args.base.now)) c.growths_within_join.ensures.twice (sym (ap registers_of is))
    c.in_ok-gate-in-Until.ensures.grows c.in_ok-each-in-Until.ensures.grows c.in_ok-check-in-Until.ensures.grows

pub returns-in_ok-check-in-Until-clause-kept : goal.returns-in_ok-check-in-Until-clause-kept
returns-in_ok-check-in-Until-clause-kept t c = (returns-in_ok-check-in-Until-clause-grows t c).kept

pub returns-in_err-check-in-Until-clause-kept : goal.returns-in_err-check-in-Until-clause-kept
returns-in_err-check-in-Until-clause-kept t c =
    let join = c.extensions_join.ensures.twice in
    join _ _ _ c.in_ok-gate-in-Until.ensures.kept (join _ _ _ c.in_ok-each-in-Until.ensures.kept
    c.in_err-check-in-Until.ensures.kept)

pub returns-in_ok-check-in-Until-clause-check : goal.returns-in_ok-check-in-Until-clause-check
returns-in_ok-check-in-Until-clause-check t c =
    let m0 = c.args.net.now in
    let m1 = c.starts_until.new.net in
    let f = base_of c.get-in-Until.result.now in
    let s = c.in-Until.strong in
    let e = expr_of c.in-Until.stop in
    let gate = c.in_ok-gate-in-Until in
    let each = c.in_ok-each-in-Until in
    let all = c.in_ok-check-in-Until in
    let is : base.until s f e ≡ base_of c.args.base.now =
    cc (ap base_of c.in-Until.is, c.get-in-Until.ensures.whole_tree) in
    through_gate m1 c.check_variant-in-Until.new.net c.join_waiting-in-Until.new.net m0.widths m1.widths s
    (base.until s f e) (base_of c.args.base.now) f
    c.args.start.0 c.args.clear.0 gate.gate.go.0 gate.gate.pend.0 each.each.check.fail.0 each.each.check.pend.0
    all.check.fail.0 all.check.pend.0
    (λ inputs run h. gate.ensures.gate inputs run h s f)
    each.ensures.kept all.ensures.kept gate.ensures.kept.widths is each.ensures.check all.ensures.fails
    all.ensures.pends
