use Rattle.std.proofs.Common.{◌≤◌, map, arith, sym, subst, ap}
use Rattle.std.proofs.Common.{◌∙◌}
use Rattle.std.proofs.lemmas.List.{take_all}
use Rattle.std.specs.Prelude.{All}
use Rattle.psl_model.specs.Limits.{vector_limit}
use Rattle.psl_model.specs.View.{expr_of}
use Rattle.verilog_text.specs.View.{module_of, register_of}
use Rattle.verilog_cycles.specs.inner.Ready.{IsLine, AreNexts}
use Rattle.verilog_cycles.proofs.Names.{nexts_none}
use Rattle.verilog_cycles.proofs.Narrow.{all_narrow}
use Rattle.verilog_cycles.proofs.Ready.{grown, within_grown}
use Rattle.verilog_cycles.proofs.Declared.{register_valid, register_width, next_more}
use Rattle.verilog_cycles.proofs.program.put_nexts.Goals as goal

pub loop-at-init : goal.loop-at-init
loop-at-init c first le =
    nexts_none first c.args.widths.now c.args.places.now c.args.nexts.now.items c.args.nodes.now.items c.requires.tape
    c.requires.none

pub line-requires-clause-valid : goal.line-requires-clause-valid
line-requires-clause-valid c =
    register_valid (module_of c.args.checker.now) c.requires.lawful c.as_slice-regs.result.now (ap (map register_of)
    c.as_slice-regs.ensures)
    c.loop-at.at c.index-regs-at.result c.loop-at-test.true c.index-regs-at.is c.args.widths.now c.requires.widths

pub line-requires-clause-narrow : goal.line-requires-clause-narrow
line-requires-clause-narrow c =
    subst (λ ws. All (λ w. w ≤ vector_limit) ws) (sym c.requires.widths) (all_narrow (module_of c.args.checker.now)
    c.requires.lawful)

pub line-requires-clause-target : goal.line-requires-clause-target
line-requires-clause-target c =
    register_width (module_of c.args.checker.now) c.requires.lawful c.as_slice-regs.result.now (ap (map register_of)
    c.as_slice-regs.ensures)
    c.loop-at.at c.index-regs-at.result c.loop-at-test.true c.index-regs-at.is

pub line-requires-clause-within : goal.line-requires-clause-within
line-requires-clause-within c =
    within_grown c.args.places.now c.args.nodes.now.items c.loop-at.nodes.items (c.loop-at.invariant 0 (omega
    arith)).grows c.requires.within

pub line-requires-clause-tape : goal.line-requires-clause-tape
line-requires-clause-tape c = (c.loop-at.invariant 0 (omega arith)).tape

pub loop-at-preserved : goal.loop-at-preserved
loop-at-preserved c first le =
    let ds = c.as_slice-regs.result.now in
    let d = c.index-regs-at.result in
    let ws = c.args.widths.now in
    let ps = c.args.places.now in
    let start = c.args.nodes.now.items in
    let old = c.loop-at.nodes.items in
    let new = c.line.new.nodes.items in
    let p = c.in_ok-place.place in
    let is = c.loop-at.invariant first le in
    let line : IsLine first ws ps old new d.width (expr_of d.next) p = c.in_ok-place.ensures first (omega (
      arith,
      le,
      grown start old is.grows,
    )) in
    next_more first ws ps ds c.loop-at.at d c.loop-at-test.true c.index-regs-at.is c.loop-at.nexts.items
    c.push.new.self.items start old new p is line c.in_ok-push.ensures.items

pub returns : goal.returns
returns c first le =
    let ds = c.as_slice-regs.result.now in
    subst (λ rs. AreNexts first c.args.widths.now c.args.places.now rs c.loop-at.nexts.items c.args.nodes.now.items
    c.loop-at.nodes.items)
    (ap (map register_of) (take_all c.loop-at.at ds c.loop-at-test.false ∙ c.as_slice-regs.ensures))
    (c.loop-at.invariant first le)
