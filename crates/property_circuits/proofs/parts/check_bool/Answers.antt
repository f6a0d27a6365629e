use Rattle.psl_model.specs.View.{expr_of}
use Rattle.psl_model.specs.Value.{own_value}
use Rattle.std.proofs.Common.{◌∙◌}
use Rattle.property_circuits.proofs.Growing.{within_same}
use Rattle.property_circuits.proofs.Judging.{bool_check, is_zero}
use Rattle.property_circuits.proofs.parts.check_bool.Goals as goal

pub returns-clause-kept : goal.returns-clause-kept
returns-clause-kept c =
    let m0 = c.args.net.now in
    let m1 = c.guard.new.self in
    let m2 = c.not.new.self in
    let m3 = c.not-2.new.self in
    let m4 = c.and.new.self in
    let m5 = c.and-2.new.self in
    let join = c.extensions_join.ensures.twice in
    join m0 m5 c.bit.new.self (join m0 m4 m5 (join m0 m3 m4 (join m0 m2 m3 (join m0 m1 m2 c.in_ok-test.ensures.kept
    c.in_ok-missed.ensures.kept) c.in_ok-open.ensures.kept) c.in_ok-begun.ensures.kept) c.in_ok-fail.ensures.kept)
    c.in_ok-pend.ensures.kept

pub returns-clause-grows : goal.returns-clause-grows
returns-clause-grows c =
    let same = c.in_ok-pend.ensures.registers ∙ c.in_ok-fail.ensures.registers ∙ c.in_ok-begun.ensures.registers
    ∙ c.in_ok-open.ensures.registers ∙ c.in_ok-missed.ensures.registers ∙ c.in_ok-test.ensures.registers in
    within_same c.args.net.now c.bit.new.self (returns-clause-kept c) same

pub returns-clause-check : goal.returns-clause-check
returns-clause-check c inputs run r6 =
    let widths = c.args.net.now.widths in
    let e = expr_of c.args.expr.now in
    let r5 = c.in_ok-pend.ensures.kept.runs inputs run r6 in
    let r4 = c.in_ok-fail.ensures.kept.runs inputs run r5 in
    let r3 = c.in_ok-begun.ensures.kept.runs inputs run r4 in
    let r2 = c.in_ok-open.ensures.kept.runs inputs run r3 in
    let r1 = c.in_ok-missed.ensures.kept.runs inputs run r2 in
    let law = c.a_boolean_is_judged_by_the_first_letter.ensures in
    bool_check widths inputs.trace e (run c.args.start.0) (run c.args.clear.0) (run c.in_ok-fail.fail.0)
    (run c.in_ok-pend.pend.0) (law.so_far widths e) (law.whole widths e)
    (λ n v within at.
    let test = c.in_ok-test.ensures.stream inputs run r1 n v at in
    let missed = c.in_ok-missed.ensures.stream inputs run r2 n within in
    let open_ = c.in_ok-open.ensures.stream inputs run r3 n within in
    let begun = c.in_ok-begun.ensures.stream inputs run r4 n within in
    let fail = c.in_ok-fail.ensures.stream inputs run r5 n within in (
      (λ on.
          let p = fail.0 on in
          let b = begun.0 p.0 in
          (b.0, open_.0 b.1, is_zero (own_value widths v e) (λ some. missed.0 p.1 (test.1 some)))),
      (λ p. fail.1 (begun.1 (p.0, open_.1 p.1), missed.1 (λ on. test.0 on p.2))),
    ))
    (λ n within on. on (c.in_ok-pend.ensures.stream inputs run r6 n within))
