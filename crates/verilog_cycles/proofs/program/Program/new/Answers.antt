use Rattle.std.proofs.Common.{◌≡◌, ◌<◌, ◌≤◌, ◌++◌, length, map, arith, sym, subst, ap, ◌∙◌}
use Rattle.std.proofs.Common.{rules}
use Rattle.std.specs.Prelude.{All}
use Rattle.psl_model.specs.Limits.{vector_limit}
use Rattle.verilog_text.specs.Module.{Wire, state_widths, widths_of}
use Rattle.verilog_text.specs.View.{module_of}
use Rattle.verilog_cycles.specs.inner.Ready.{IsLine, AreFront, AreWires, AreNexts}
use Rattle.verilog_cycles.proofs.Narrow.{all_narrow}
use Rattle.verilog_cycles.proofs.Ready.{grown, within_grown}
use Rattle.verilog_cycles.proofs.Programs.{program_is}
use Rattle.verilog_cycles.proofs.program.Program.new.Goals as goal

pub line-requires-clause-narrow : goal.line-requires-clause-narrow
line-requires-clause-narrow c =
    let m = module_of c.args.checker.now in
    let is : c.deref-3.result.now ≡ widths_of m =
    c.deref-3.ensures.value ∙ c.in_ok-put_wires.ensures.all ∙ ap (λ ws. ws ++ map (λ (w : Wire). w.width) m.wires)
    c.in_ok-put_front.ensures.widths in
    subst (λ ws. All (λ w. w ≤ vector_limit) ws) (sym is) (all_narrow m c.requires)

pub line-requires-clause-within : goal.line-requires-clause-within
line-requires-clause-within c =
    let nexts = c.in_ok-put_nexts.ensures 0 (omega arith) in
    within_grown c.deref-4.result.now c.put_wires.new.nodes.items c.put_nexts.new.nodes.items nexts.grows
    (subst (λ ps. All (λ p. p < length c.put_wires.new.nodes.items) ps) (sym c.deref-4.ensures.value)
    c.in_ok-put_wires.ensures.within)

pub line-requires-clause-tape : goal.line-requires-clause-tape
line-requires-clause-tape c = (c.in_ok-put_nexts.ensures 0 (omega arith)).tape

pub returns : goal.returns
returns c =
    let m = module_of c.args.checker.now in
    let n0 = c.put_front.new.nodes.items in
    let n1 = c.put_wires.new.nodes.items in
    let n2 = c.put_nexts.new.nodes.items in
    let n3 = c.line.new.nodes.items in
    let first = length n0 in
    let len : c.len-first.result ≡ first = search rules in
    let ws0 = c.put_front.new.widths.items in
    let fronts = c.put_front.new.places.items in
    let ws = c.put_wires.new.widths.items in
    let ps = c.put_wires.new.places.items in
    let takes = c.put_nexts.new.nexts.items in
    let fail = c.in_ok-fail.fail in
    let front_is : ws0 ≡ state_widths m = c.in_ok-put_front.ensures.widths in
    let all_is : ws ≡ widths_of m = c.in_ok-put_wires.ensures.all ∙ ap (λ us. us ++ map (λ (w : Wire). w.width)
    m.wires) front_is in
    let front : AreFront (state_widths m) fronts n0 = subst (λ us. AreFront us fronts n0) front_is
    c.in_ok-put_front.ensures.front in
    let wires_front : AreWires first (state_widths m) fronts m.wires ws ps n1 =
    subst (λ us. AreWires first us fronts m.wires ws ps n1) front_is c.in_ok-put_wires.ensures in
    let wires : AreWires first (state_widths m) fronts m.wires (widths_of m) ps n1 =
    subst (λ us. AreWires first (state_widths m) fronts m.wires us ps n1) all_is wires_front in
    let nexts_raw : AreNexts first c.deref.result.now c.deref-2.result.now m.registers takes n1 n2 =
    c.in_ok-put_nexts.ensures first wires.room in
    let nexts_ws : AreNexts first (widths_of m) c.deref-2.result.now m.registers takes n1 n2 =
    subst (λ us. AreNexts first us c.deref-2.result.now m.registers takes n1 n2) (c.deref.ensures.value ∙ all_is)
    nexts_raw in
    let nexts : AreNexts first (widths_of m) ps m.registers takes n1 n2 =
    subst (λ qs. AreNexts first (widths_of m) qs m.registers takes n1 n2) c.deref-2.ensures.value nexts_ws in
    let line_raw : IsLine first c.deref-3.result.now c.deref-4.result.now n2 n3 1 m.fail fail =
    c.in_ok-fail.ensures first (let more = grown n1 n2 nexts.grows in omega (arith, wires.room, more)) in
    let line_ws : IsLine first (widths_of m) c.deref-4.result.now n2 n3 1 m.fail fail =
    subst (λ us. IsLine first us c.deref-4.result.now n2 n3 1 m.fail fail) (c.deref-3.ensures.value ∙ all_is)
    line_raw in
    let line : IsLine first (widths_of m) ps n2 n3 1 m.fail fail =
    subst (λ qs. IsLine first (widths_of m) qs n2 n3 1 m.fail fail) c.deref-4.ensures.value line_ws in
    program_is m c.len-first.result n0 n1 n2 n3 fronts ps takes fail front len
    (subst (λ k. AreWires k (state_widths m) fronts m.wires (widths_of m) ps n1) (sym len) wires)
    (subst (λ k. AreNexts k (widths_of m) ps m.registers takes n1 n2) (sym len) nexts)
    (subst (λ k. IsLine k (widths_of m) ps n2 n3 1 m.fail fail) (sym len) line)
