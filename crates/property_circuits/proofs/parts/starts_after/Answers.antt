use Rattle.psl_model.specs.View.{sere_of}
use Rattle.psl_rewrite.specs.Base as base
use Rattle.psl_rewrite.specs.Meaning.{named}
use Rattle.psl_rewrite.specs.Obligations.{IsContradictory}
use Rattle.property_circuits.proofs.Judging.{built_obliges}
use Rattle.property_circuits.proofs.Gating.{suffix_check}
use Rattle.property_circuits.proofs.parts.starts_after.Goals as goal

pub returns-clause-check : goal.returns-clause-check
returns-clause-check c inputs run h f fail pend built body =
    let widths = c.args.net.now.widths in
    let r = sere_of c.args.sere.now in
    let nothing = c.tops_for_ever_satisfy.ensures.not_violated widths f
    (built_obliges (λ s. ¬ IsContradictory widths s) f built) in
    suffix_check widths inputs.trace r (base.suffix r f) f
    (λ ls. c.suffix_is_its_body_after_each_match_so_far.ensures widths r (named f) ls nothing)
    (c.suffix_is_its_body_after_each_match.ensures widths r (named f))
    (run c.args.start.0) (run c.args.clear.0) (run c.in_ok-found.found.net.0) fail pend
    (c.in_ok-found.ensures.stream inputs run h) body
