use Rattle.psl_rewrite.specs.Base as base
use Rattle.psl_rewrite.specs.Meaning.{named}
use Rattle.psl_rewrite.specs.Obligations.{IsContradictory}
use Rattle.property_circuits.proofs.Judging.{built_obliges}
use Rattle.property_circuits.proofs.Gating.{next_gate, one_so_far, one_at_last}
use Rattle.property_circuits.proofs.gates.later_starts.Goals as goal

pub returns-clause-one : goal.returns-clause-one
returns-clause-one c inputs run h widths s f is_one built =
    let low = c.args.low in
    let high = c.args.high in
    let whole = base.next s low f in
    let nothing = c.tops_for_ever_satisfy.ensures.not_violated widths f
    (built_obliges (λ r. ¬ IsContradictory widths r) f built) in
    next_gate widths inputs.trace s low high whole f nothing
    (one_so_far widths inputs.trace low high whole f is_one
    (c.next_is_its_body_later_so_far.ensures.one widths s low low (named f)))
    (one_at_last widths inputs.trace s low high whole f is_one
    (c.next_is_its_body_later.ensures.one widths s low low (named f)))
    (run c.args.start.0) (run c.args.clear.0) (run c.in_ok-gate.gate.go.0) (run c.in_ok-gate.gate.pend.0)
    (c.in_ok-gate.ensures.go inputs run h) (c.in_ok-gate.ensures.pend inputs run h)

pub returns-clause-all : goal.returns-clause-all
returns-clause-all c inputs run h widths s f built =
    let low = c.args.low in
    let high = c.args.high in
    let whole = base.next_all s low high f in
    let nothing = c.tops_for_ever_satisfy.ensures.not_violated widths f
    (built_obliges (λ r. ¬ IsContradictory widths r) f built) in
    next_gate widths inputs.trace s low high whole f nothing
    (λ ls. c.next_is_its_body_later_so_far.ensures.all widths s low high (named f) ls c.requires.ordered)
    (λ ls. c.next_is_its_body_later.ensures.all widths s low high (named f) ls c.requires.ordered)
    (run c.args.start.0) (run c.args.clear.0) (run c.in_ok-gate.gate.go.0) (run c.in_ok-gate.gate.pend.0)
    (c.in_ok-gate.ensures.go inputs run h) (c.in_ok-gate.ensures.pend inputs run h)
