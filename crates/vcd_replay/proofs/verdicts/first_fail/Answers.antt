use Rattle.std.proofs.Common.{◌≡◌, ℕ, ◌+◌, suc, length, Some, subst, arith}
use Rattle.std.specs.Prelude.{slice_get}
use Rattle.vcd_replay.specs.FirstFail.{end_values}
use Rattle.vcd_replay.proofs.FirstFails.{HasRun, first_here, more_run, nowhere_here}
use Rattle.vcd_replay.proofs.verdicts.first_fail.Goals as goal

pub returns-then-step_on-clause-first : goal.returns-then-step_on-clause-first
returns-then-step_on-clause-first c =
    let eot : slice_get (end_values c.args.end (length c.args.trace.now)) c.loop-cycle.cycle
    ≡ Some c.ends_in-eot.result =
    subst (λ (n : ℕ). slice_get (end_values c.args.end n) c.loop-cycle.cycle ≡ Some c.ends_in-eot.result)
    c.cycles-cycles.ensures.count c.ends_in-eot.ensures in
    first_here c.steps_after_reset_answer_the_fail_stream.ensures c.steps_go_on.ensures.more c.args.machine.now
    c.loop-cycle.machine c.step_on.new.machine c.args.trace.now c.args.from c.args.end c.loop-cycle.cycle
    c.row.result.now c.ends_in-eot.result c.step_on.result c.module.ensures.lawful c.requires.fits
    c.loop-cycle.invariant c.row.ensures.values eot c.step_on.ensures.step c.if-step_on.true

pub loop-cycle-preserved : goal.loop-cycle-preserved
loop-cycle-preserved c =
    let eot : slice_get (end_values c.args.end (length c.args.trace.now)) c.loop-cycle.cycle
    ≡ Some c.ends_in-eot.result =
    subst (λ (n : ℕ). slice_get (end_values c.args.end n) c.loop-cycle.cycle ≡ Some c.ends_in-eot.result)
    c.cycles-cycles.ensures.count c.ends_in-eot.ensures in
    let next : suc c.loop-cycle.cycle ≡ c.loop-cycle.cycle + 1 = omega arith in
    subst (λ (n : ℕ). HasRun c.args.machine.now c.step_on.new.machine c.args.trace.now c.args.from c.args.end n) next
    (more_run c.steps_go_on.ensures.more c.args.machine.now
    c.loop-cycle.machine c.step_on.new.machine c.args.trace.now c.args.from c.args.end c.loop-cycle.cycle
    c.row.result.now c.ends_in-eot.result c.step_on.result
    c.loop-cycle.invariant c.row.ensures.values eot c.step_on.ensures.step c.if-step_on.false c.step_on.ensures.module)

pub returns-clause-first : goal.returns-clause-first
returns-clause-first c =
    let all : c.loop-cycle.cycle ≡ length c.args.trace.now =
    omega (arith, c.loop-cycle.auto.cycle-end, c.cycles-cycles.ensures.count) in
    nowhere_here c.steps_after_reset_answer_the_fail_stream.ensures c.args.machine.now c.loop-cycle.machine
    c.args.trace.now c.args.from c.args.end c.module.ensures.lawful c.requires.fits
    (subst (λ (n : ℕ). HasRun c.args.machine.now c.loop-cycle.machine c.args.trace.now c.args.from c.args.end n) all
    c.loop-cycle.invariant)
