use Rattle.property_circuits.proofs.Judging.{and_check}
use Rattle.property_circuits.proofs.parts.join.Goals as goal

pub returns-clause-check : goal.returns-clause-check
returns-clause-check c inputs run h widths f g start clear one two =
    let law = c.a_conjunction_is_violated_by_a_side.ensures in
    and_check widths inputs.trace f g start clear (run c.in_ok-fail.fail.0) (run c.args.left.fail.0)
    (run c.args.right.fail.0) (run c.in_ok-pend.pend.0) (run c.args.left.pend.0) (run c.args.right.pend.0)
    (law.so_far widths f g) (law.whole widths f g) one two
    (c.in_ok-fail.ensures.stream inputs run (c.in_ok-pend.ensures.kept.runs inputs run h))
    (c.in_ok-pend.ensures.stream inputs run h)
