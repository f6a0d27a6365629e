use Rattle.std.proofs.Common.{◌≡◌, ◌+◌, ◌-◌, List, [], ◌∷◌, ◌++◌, length, map, sym, ap, subst, ◌∙◌}
use Rattle.std.proofs.lemmas.List.{map-append}
use Rattle.std.proofs.lemmas.Result.{err_from_is_err_and}
use Rattle.std.specs.Prelude.{codes}
use Rattle.indexmap.specs.IndexMap.{keys, values}
use Rattle.verilog_text.specs.Module.{Wire}
use Rattle.verilog_text.specs.View.{wire_of}
use Rattle.verilog_reader.specs.inner.Lines.{State, Declared, wire_at, declarations_at, wires_at}
use Rattle.verilog_reader.proofs.Continued.{pending, declared_found, declared_stopped, declared_more}
use Rattle.verilog_reader.proofs.declarations.read_wires.Goals as goal

pub returns-in_default : goal.returns-in_default
unfolding wires_at
returns-in_default c =
    let whole : Declared Wire =
    declarations_at (codes "  wire ") wire_at (length c.args.bytes.now)
    (keys c.args.table.now, values c.args.table.now) 0 c.args.bytes.now in
    declared_found (codes "  wire ") wire_at whole (map wire_of c.wires.wires.items) (length c.args.bytes.now)
    c.wires.number (keys c.wires.table, values c.wires.table) c.wires.rest.now c.wires-test.true c.wires.invariant
    (sym c.in_default.ensures)

pub returns-in_err-wire : goal.returns-in_err-wire
unfolding wires_at
returns-in_err-wire c =
    let whole : Declared Wire =
    declarations_at (codes "  wire ") wire_at (length c.args.bytes.now)
    (keys c.args.table.now, values c.args.table.now) 0 c.args.bytes.now in
    let p = err_from_is_err_and c.from_residual.result c.from_residual.ensures.1 in
    rw (p.1, p.2) (declared_stopped (codes "  wire ") wire_at whole (map wire_of c.wires.wires.items)
    (length c.args.bytes.now) c.wires.number (keys c.wires.table, values c.wires.table) c.wires.rest.now
    c.in_err-wire.field-0.0 c.in-Some.start.now c.wires-test.true c.wires.invariant
    (sym c.in-Some.ensures) c.in_err-wire.ensures)

pub wires-preserved : goal.wires-preserved
wires-preserved c =
    let whole : Declared Wire =
    declarations_at (codes "  wire ") wire_at (length c.args.bytes.now)
    (keys c.args.table.now, values c.args.table.now) 0 c.args.bytes.now in
    let next : State = (keys c.read_wire.new.table, values c.read_wire.new.table) in
    let more = declared_more (codes "  wire ") wire_at whole (map wire_of c.wires.wires.items) (length c.args.bytes.now)
    c.wires.number (keys c.wires.table, values c.wires.table) c.wires.rest.now c.in-Some.start.now
    (wire_of c.in_ok-wire.wire) next c.in_ok-wire.after.now c.wires-test.true c.wires.invariant
    (sym c.in-Some.ensures) c.in_ok-wire.ensures in
    let pushed : map wire_of c.push.new.self.items ≡ map wire_of c.wires.wires.items ++ wire_of c.in_ok-wire.wire ∷ [] =
    ap (map wire_of) c.in_ok-push.ensures.items ∙ map-append wire_of c.wires.wires.items (c.in_ok-wire.wire ∷ []) in
    subst (λ (xs : List Wire). pending xs
    (declarations_at (codes "  wire ") wire_at (length c.args.bytes.now - (c.wires.number + 1)) next
    (c.wires.number + 1) c.in_ok-wire.after.now) ≡ whole) (sym pushed) more
