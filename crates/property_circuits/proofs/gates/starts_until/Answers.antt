use Rattle.psl_model.specs.View.{expr_of}
use Rattle.psl_rewrite.specs.Base as base
use Rattle.psl_rewrite.specs.Meaning.{named}
use Rattle.property_circuits.proofs.Growing.{within_same}
use Rattle.property_circuits.proofs.Gating.{until_gate}
use Rattle.property_circuits.proofs.gates.starts_until.Goals as goal

pub returns-clause-grows : goal.returns-clause-grows
returns-clause-grows c =
    let m0 = c.args.net.now in
    let m1 = c.guard.new.self in
    let m2 = c.until_gate.new.net in
    c.growths_within_join.ensures.twice m0 m1 m2 0 1
    (within_same m0 m1 c.in_ok-stopped.ensures.kept c.in_ok-stopped.ensures.registers)
    (c.growths_within_join.ensures.counted m1 m2 1 c.in_ok-gate.ensures.grows)

pub returns-clause-gate : goal.returns-clause-gate
returns-clause-gate c inputs run h s f =
    let widths = c.args.net.now.widths in
    let e = expr_of c.args.stop.now in
    let r1 = c.in_ok-gate.ensures.kept.runs inputs run h in
    until_gate widths inputs.trace s e (base.until s f e) f
    (c.until_is_its_body_before_the_stop_so_far.ensures widths s (named f) e)
    (c.until_is_its_body_before_the_stop.ensures widths s (named f) e)
    (run c.in_ok-stopped.stopped.0) (run c.args.start.0) (run c.args.clear.0) (run c.in_ok-gate.gate.go.0)
    (run c.in_ok-gate.gate.pend.0) (c.in_ok-stopped.ensures.stream inputs run r1)
    (c.in_ok-gate.ensures.go inputs run h) (c.in_ok-gate.ensures.pend inputs run h)
