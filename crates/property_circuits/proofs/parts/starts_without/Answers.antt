use Rattle.std.proofs.Common.{◌≡◌}
use Rattle.std.proofs.lemmas.Option.{slice_get_within}
use Rattle.psl_model.specs.View.{expr_of}
use Rattle.psl_model.specs.Value.{own_value}
use Rattle.psl_rewrite.specs.Base as base
use Rattle.property_circuits.proofs.Judging.{narrowed_check, is_zero}
use Rattle.property_circuits.proofs.parts.starts_without.Goals as goal

pub returns-clause-check : goal.returns-clause-check
returns-clause-check c inputs run h f clear fail pend body =
    let widths = c.args.net.now.widths in
    let e = expr_of c.args.expr.now in
    let law = c.an_alternative_is_violated_where_its_test_fails.ensures in
    narrowed_check widths inputs.trace (λ v. own_value widths v e ≡ 0) (base.or_bool e f) f (run c.args.start.0)
    (run c.in_ok-begun.begun.0) clear fail pend (law.so_far widths e f) (law.whole widths e f)
    (λ n v at.
    let within = slice_get_within inputs.trace n v at in
    let h2 = c.in_ok-begun.ensures.kept.runs inputs run h in
    let h1 = c.in_ok-missed.ensures.kept.runs inputs run h2 in
    let test = c.in_ok-test.ensures.stream inputs run h1 n v at in
    let missed = c.in_ok-missed.ensures.stream inputs run h2 n within in
    let both = c.in_ok-begun.ensures.stream inputs run h n within in (
      (λ on.
          let p = both.0 on in
          (p.0, is_zero (own_value widths v e) (λ some. missed.0 p.1 (test.1 some)))),
      (λ p. both.1 (p.0, missed.1 (λ on. test.0 on p.1))),
    ))
    body
