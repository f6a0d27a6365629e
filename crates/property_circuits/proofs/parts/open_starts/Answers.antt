use Rattle.std.proofs.Common.{arith}
use Rattle.psl_rewrite.specs.Meaning.{named}
use Rattle.psl_rewrite.specs.Obligations.{IsContradictory}
use Rattle.property_circuits.proofs.Judging.{always_check, built_obliges}
use Rattle.property_circuits.proofs.parts.open_starts.Goals as goal

pub returns-clause-check : goal.returns-clause-check
returns-clause-check c inputs run h widths f fail pend built body =
    let so_far = c.always_is_its_body_at_each_place_so_far.ensures in
    let nothing = c.tops_for_ever_satisfy.ensures.not_violated widths f
    (built_obliges (λ r. ¬ IsContradictory widths r) f built) in
    always_check widths inputs.trace f (run c.args.start.0) (run c.in_ok-live.live.0) (run c.args.clear.0) fail pend
    (λ ls.
    let law = so_far widths (named f) ls in
    ((λ h k below. law.0 h k (omega arith)), (λ each. law.1 (λ k below. each k (omega arith)))))
    nothing
    (c.always_is_its_body_at_each_place.ensures widths (named f))
    (c.in_ok-live.ensures.stream inputs run h)
    body
