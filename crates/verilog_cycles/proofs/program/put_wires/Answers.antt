use Rattle.std.proofs.Common.{◌≤◌, ◌++◌, length, map, take, sym, subst, ap}
use Rattle.std.proofs.Common.{◌∙◌}
use Rattle.std.specs.Prelude.{All}
use Rattle.psl_model.specs.Limits.{vector_limit}
use Rattle.psl_model.specs.Valid.{IsValid}
use Rattle.psl_model.specs.View.{expr_of}
use Rattle.verilog_text.specs.Module.{Wire}
use Rattle.verilog_text.specs.View.{module_of, wire_of}
use Rattle.verilog_cycles.specs.inner.Ready.{IsLine}
use Rattle.verilog_cycles.proofs.Names.{wires_none}
use Rattle.verilog_cycles.proofs.Declared.{wire_valid, widths_narrow, wire_width, wire_more}
use Rattle.verilog_cycles.proofs.program.put_wires.Goals as goal

pub loop-at-init : goal.loop-at-init
loop-at-init c = wires_none c.args.widths.now.items c.args.places.now.items c.args.nodes.now.items c.requires.front

pub line-requires-clause-valid : goal.line-requires-clause-valid
line-requires-clause-valid c =
    let m = module_of c.args.checker.now in
    let ds = c.as_slice-wires.result.now in
    let d = c.index-wires-at.result in
    subst (λ ws. IsValid ws (expr_of d.value)) (sym c.deref.ensures.value)
    (wire_valid m c.requires.lawful ds (ap (map wire_of) c.as_slice-wires.ensures) c.loop-at.at d
    c.loop-at-test.true c.index-wires-at.is
    c.loop-at.widths.items (c.loop-at.invariant.all ∙ ap (λ ws. ws ++ map (λ (w : Wire). w.width) (map wire_of
    (take c.loop-at.at ds))) c.requires.widths))

pub line-requires-clause-narrow : goal.line-requires-clause-narrow
line-requires-clause-narrow c =
    let m = module_of c.args.checker.now in
    let ds = c.as_slice-wires.result.now in
    subst (λ ws. All (λ w. w ≤ vector_limit) ws) (sym c.deref.ensures.value)
    (widths_narrow m c.requires.lawful ds (ap (map wire_of) c.as_slice-wires.ensures) c.loop-at.at
    c.loop-at.widths.items (c.loop-at.invariant.all ∙ ap (λ ws. ws ++ map (λ (w : Wire). w.width) (map wire_of
    (take c.loop-at.at ds))) c.requires.widths))

pub line-requires-clause-target : goal.line-requires-clause-target
line-requires-clause-target c =
    wire_width (module_of c.args.checker.now) c.requires.lawful c.as_slice-wires.result.now (ap (map wire_of)
    c.as_slice-wires.ensures)
    c.loop-at.at c.index-wires-at.result c.loop-at-test.true c.index-wires-at.is

pub loop-at-preserved : goal.loop-at-preserved
loop-at-preserved c =
    let m = module_of c.args.checker.now in
    let first = length c.args.nodes.now.items in
    let ds = c.as_slice-wires.result.now in
    let d = c.index-wires-at.result in
    let ws = c.loop-at.widths.items in
    let ps = c.loop-at.places.items in
    let old = c.loop-at.nodes.items in
    let new = c.line.new.nodes.items in
    let p = c.in_ok-place.place in
    let valid : IsValid ws (expr_of d.value) = wire_valid m c.requires.lawful ds (ap (map wire_of)
    c.as_slice-wires.ensures) c.loop-at.at d c.loop-at-test.true c.index-wires-at.is
    ws (c.loop-at.invariant.all ∙ ap (λ us. us ++ map (λ (w : Wire). w.width) (map wire_of (take c.loop-at.at
    ds))) c.requires.widths) in
    let one : IsLine first c.deref.result.now c.deref-in-loop-at.result.now old new d.width (expr_of d.value) p =
    c.in_ok-place.ensures first c.loop-at.invariant.room in
    let two = subst (λ us. IsLine first us c.deref-in-loop-at.result.now old new d.width (expr_of d.value) p)
    c.deref.ensures.value one in
    let line = subst (λ qs. IsLine first ws qs old new d.width (expr_of d.value) p) c.deref-in-loop-at.ensures.value
    two in
    wire_more c.an_expression_reads_its_own_signals.ensures.value c.an_expression_reads_its_own_signals.ensures.width
    first
    c.args.widths.now.items c.args.places.now.items ds c.loop-at.at d c.loop-at-test.true c.index-wires-at.is ws ps
    c.push.new.self.items c.push-in-loop-at.new.self.items old new p c.loop-at.invariant valid line
    c.in_ok-push.ensures.items c.in_ok-push-2.ensures.items
