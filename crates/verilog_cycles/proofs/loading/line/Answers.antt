use Rattle.std.proofs.Common.{◌≡◌, ℕ, ◌≤◌, [], ◌∷◌, ◌++◌, length, arith}
use Rattle.psl_model.specs.View.{expr_of}
use Rattle.verilog_cycles.specs.declared.nodes.Node.TheVariants.{Part}
use Rattle.verilog_cycles.specs.inner.Ready.{IsLine}
use Rattle.verilog_cycles.proofs.Ready.{if_both}
use Rattle.verilog_cycles.proofs.Lines.{line_whole, line_cut}
use Rattle.verilog_cycles.proofs.loading.line.Goals as goal

pub returns-then-own-target : goal.returns-then-own-target
returns-then-own-target c first le =
    let ws = c.args.widths.now in
    let e = expr_of c.args.expr.now in
    line_whole c.a_value_fits_its_context.ensures.fits first ws c.args.places.now c.args.nodes.now.items
    c.ready.new.nodes.items
    c.args.target c.max.result e c.in_ok-place.place (omega (arith, c.own_width-own.ensures.width, c.max.ensures))
    (omega (arith, c.own_width-own.ensures.width, c.if-own-target.true)) c.requires.valid (c.in_ok-place.ensures
    first le)

pub returns-else-own-target : goal.returns-else-own-target
returns-else-own-target c =
    let ws = c.args.widths.now in
    let ps = c.args.places.now in
    let e = expr_of c.args.expr.now in
    let old = c.args.nodes.now.items in
    let mid = c.ready.new.nodes.items in
    let new = c.put.new.nodes.items in
    let p = c.in_ok-place.place in
    if_both c.put.result (λ _. new ≡ mid ++ Part p 0 c.args.target ∷ []) (λ place. place ≡ length mid)
    (λ place. (first : ℕ) → first ≤ length old → IsLine first ws ps old new c.args.target e place)
    c.put.ensures.gained c.put.ensures.place (λ place gained at first le.
    line_cut first ws ps old mid new c.args.target c.max.result e p place le
    (omega (arith, c.own_width-own.ensures.width, c.max.ensures)) c.requires.target (c.in_ok-place.ensures
    first le) gained at)
