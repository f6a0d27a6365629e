use Rattle.std.proofs.Common.{min, length, ◌<◌, arith, ap, sym, ◌∙◌, take, get_or}
use Rattle.std.proofs.lemmas.List.Sums.{fold_more}
use Rattle.unit_rules.specs.Numbers.{and_digit, number_of}
use Rattle.unit_rules.proofs.NumberLemmas.{capped_digit}
use Rattle.unit_rules.proofs.numbers.number_of.Goals as goal

pub loop-byte-preserved : goal.loop-byte-preserved
loop-byte-preserved c =
    let base = c.args.base in
    let most = c.args.most in
    let i = c.loop-byte.byte-index in
    let ds = c.args.digits.now in
    let so_far = number_of base (take i ds) in
    let lt : i < length ds = omega arith in
    c.and_digit-value.ensures
    ∙ (ap (λ v. min (and_digit base v (get_or ds i 0)) most) c.loop-byte.invariant
    ∙ (capped_digit base so_far (get_or ds i 0) most
    ∙ ap (λ v. min v most) (sym (fold_more (and_digit base) 0 ds i 0 lt))))
