use Rattle.std.proofs.Common.{◌≡◌, ℕ, ◌+◌, ◌-◌, List, [], ◌∷◌, ◌++◌, length, sym, subst}
use Rattle.std.proofs.lemmas.Result.{err_from_is_err_and}
use Rattle.std.specs.Prelude.{codes}
use Rattle.indexmap.specs.IndexMap.{keys, values}
use Rattle.verilog_reader.specs.inner.Lines.{State, Declared, register_at, declarations_at, registers_at}
use Rattle.verilog_reader.proofs.Continued.{pending, declared_found, declared_stopped, declared_more}
use Rattle.verilog_reader.proofs.declarations.read_registers.Goals as goal

pub returns-in_default : goal.returns-in_default
unfolding registers_at
returns-in_default c =
    let whole : Declared ℕ =
    declarations_at (codes "  reg ") register_at (length c.args.bytes.now)
    (keys c.args.table.now, values c.args.table.now) 0 c.args.bytes.now in
    declared_found (codes "  reg ") register_at whole (c.registers.widths.items) (length c.args.bytes.now)
    c.registers.number (keys c.registers.table, values c.registers.table) c.registers.rest.now c.registers-test.true
    c.registers.invariant (sym c.in_default.ensures)

pub returns-in_err-width : goal.returns-in_err-width
unfolding registers_at
returns-in_err-width c =
    let whole : Declared ℕ =
    declarations_at (codes "  reg ") register_at (length c.args.bytes.now)
    (keys c.args.table.now, values c.args.table.now) 0 c.args.bytes.now in
    let p = err_from_is_err_and c.from_residual.result c.from_residual.ensures.1 in
    rw (p.1, p.2) (declared_stopped (codes "  reg ") register_at whole (c.registers.widths.items)
    (length c.args.bytes.now) c.registers.number (keys c.registers.table, values c.registers.table)
    c.registers.rest.now c.in_err-width.field-0.0 c.in-Some.start.now c.registers-test.true c.registers.invariant
    (sym c.in-Some.ensures) c.in_err-width.ensures)

pub registers-preserved : goal.registers-preserved
registers-preserved c =
    let whole : Declared ℕ =
    declarations_at (codes "  reg ") register_at (length c.args.bytes.now)
    (keys c.args.table.now, values c.args.table.now) 0 c.args.bytes.now in
    let next : State = (keys c.read_register.new.table, values c.read_register.new.table) in
    let more = declared_more (codes "  reg ") register_at whole (c.registers.widths.items) (length c.args.bytes.now)
    c.registers.number (keys c.registers.table, values c.registers.table) c.registers.rest.now c.in-Some.start.now
    c.in_ok-width.width next c.in_ok-width.after.now c.registers-test.true c.registers.invariant
    (sym c.in-Some.ensures) c.in_ok-width.ensures in
    let pushed : c.push.new.self.items ≡ c.registers.widths.items ++ c.in_ok-width.width ∷ [] =
    c.in_ok-push.ensures.items in
    subst (λ (xs : List ℕ). pending xs
    (declarations_at (codes "  reg ") register_at (length c.args.bytes.now - (c.registers.number + 1)) next
    (c.registers.number + 1) c.in_ok-width.after.now) ≡ whole) (sym pushed) more
