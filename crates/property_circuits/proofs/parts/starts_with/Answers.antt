use Rattle.std.proofs.Common.{◌≢◌}
use Rattle.std.proofs.lemmas.Option.{slice_get_within}
use Rattle.psl_model.specs.View.{expr_of}
use Rattle.psl_model.specs.Value.{own_value}
use Rattle.psl_rewrite.specs.Base as base
use Rattle.property_circuits.proofs.Judging.{narrowed_check}
use Rattle.property_circuits.proofs.parts.starts_with.Goals as goal

pub returns-clause-check : goal.returns-clause-check
returns-clause-check c inputs run h f clear fail pend body =
    let widths = c.args.net.now.widths in
    let e = expr_of c.args.expr.now in
    let law = c.an_implication_is_violated_where_its_test_holds.ensures in
    narrowed_check widths inputs.trace (λ v. own_value widths v e ≢ 0) (base.implies e f) f (run c.args.start.0)
    (run c.in_ok-begun.begun.0) clear fail pend (law.so_far widths e f) (law.whole widths e f)
    (λ n v at.
    let within = slice_get_within inputs.trace n v at in
    let test = c.in_ok-test.ensures.stream inputs run (c.in_ok-begun.ensures.kept.runs inputs run h) n v at in
    let both = c.in_ok-begun.ensures.stream inputs run h n within in
    ((λ on. let p = both.0 on in (p.0, test.0 p.1)), (λ p. both.1 (p.0, test.1 p.1))))
    body
