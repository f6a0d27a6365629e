use Rattle.std.proofs.Common.{◌≡◌, ◌↔◌, ◌∙◌, sym, ap, subst, List, ◌+◌, ◌<◌, length, get_or, take, arith}
use Rattle.std.proofs.lemmas.List.{take_more, take_all}
use Rattle.auto_core.specs.declared.labels.Literal.{Literal}
use Rattle.auto_core.specs.LiteralSets.{put_literal, put_all}
use Rattle.auto_core.specs.Machine.{Passes}
use Rattle.auto_core.proofs.LabelLemmas.{kept_by_put_all, put_all-push, Passes-put_all}
use Rattle.auto_core.proofs.labels.Label.put_all.Goals as goal

more : (ls ms now new : List Literal) (i : _) (d : Literal) → i < length ls → now ≡ put_all (take i ls) ms →
    new ≡ put_literal (get_or ls i d) now → new ≡ put_all (take (i + 1) ls) ms
more ls ms now new i d lt before step =
    step ∙ ap (put_literal (get_or ls i d)) before ∙ sym (put_all-push (take i ls) (get_or ls i d) ms)
    ∙ ap (λ (s : List Literal). put_all s ms) (sym (take_more ls i d lt))

pub returns-in_err-put-clause-kept : goal.returns-in_err-put-clause-kept
returns-in_err-put-clause-kept c l h = kept_by_put_all
    (take c.loop-literal.literal-index c.literals-literal-items.result.now) _ _
    (c.in_err-put.ensures.unchanged ∙ c.loop-literal.invariant) l h

pub loop-literal-preserved : goal.loop-literal-preserved
loop-literal-preserved c = more _ _ _ _ c.loop-literal.literal-index _ c.loop-literal-test.true
    c.loop-literal.invariant c.in_ok-put.ensures.ok

pub returns-clause-kept : goal.returns-clause-kept
returns-clause-kept c l h = kept_by_put_all (take c.loop-literal.literal-index c.literals-literal-items.result.now)
    _ _ c.loop-literal.invariant l h

pub returns-clause-passes : goal.returns-clause-passes
returns-clause-passes c a =
    let other : List Literal = c.args.other.now in
    let old : List Literal = c.args.self.now in
    let items : List Literal = c.literals-literal-items.result.now in
    let all = take_all c.loop-literal.literal-index items (omega (arith, c.loop-literal-test.false)) in
    let same = all ∙ c.literals-literal-items.ensures.value in
    let whole : c.loop-literal.self ≡ put_all other old =
    c.loop-literal.invariant ∙ ap (λ (ls : List Literal). put_all ls old) same in
    subst (λ (s : List Literal). Passes s a ↔ (Passes other a × Passes old a)) (sym whole) (Passes-put_all other old a)
