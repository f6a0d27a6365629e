use Rattle.std.proofs.Common.{◌≡◌, ◌+◌, ◌-◌, List, [], ◌∷◌, ◌++◌, length, sym, ap, subst, ◌∙◌}
use Rattle.std.proofs.lemmas.Result.{err_from_is_err_and}
use Rattle.psl_model.specs.declared.names.Signal.{Signal}
use Rattle.verilog_reader.specs.inner.Lines.{one_bit, port_names_at}
use Rattle.verilog_reader.proofs.Continued.{continued, names_found, names_stopped, names_more}
use Rattle.verilog_reader.proofs.headers.read_port_names.Goals as goal

pub returns-in-Some : goal.returns-in-Some
returns-in-Some c =
    names_found (port_names_at (length c.args.bytes.now) c.args.bytes.now) c.names.ports.items (length c.args.bytes.now)
    c.names.most c.names.rest.now c.in-Some.after.now c.names-test.true c.names.invariant (sym c.in-Some.ensures)

pub returns-in_err-name : goal.returns-in_err-name
returns-in_err-name c =
    let p = err_from_is_err_and c.from_residual.result c.from_residual.ensures.1 in
    rw (p.1, p.2) (names_stopped c.in_err-name.field-0.0 (port_names_at (length c.args.bytes.now) c.args.bytes.now)
    c.names.ports.items (length c.args.bytes.now) c.names.most c.names.rest.now c.names-test.true c.names.invariant
    (sym c.in_default.ensures) c.in_err-name.ensures)

pub names-preserved : goal.names-preserved
names-preserved c =
    let whole = port_names_at (length c.args.bytes.now) c.args.bytes.now in
    let more =
    names_more whole c.names.ports.items (length c.args.bytes.now) c.names.most c.names.rest.now
    c.in_ok-name.name.now c.in_ok-name.after.now c.names-test.true c.names.invariant (sym c.in_default.ensures)
    c.in_ok-name.ensures in
    let made : Signal = record { name = c.in_ok-port.port; width = 1 } in
    let same : made ≡ one_bit c.in_ok-name.name.now = ap one_bit c.in_ok-port.ensures.same_bytes in
    let pushed : c.push.new.self.items ≡ c.names.ports.items ++ one_bit c.in_ok-name.name.now ∷ [] =
    c.in_ok-push.ensures.items ∙ ap (λ (s : Signal). c.names.ports.items ++ s ∷ []) same in
    subst (λ (xs : List Signal). continued xs
    (port_names_at (length c.args.bytes.now - (c.names.most + 1)) c.in_ok-name.after.now) ≡ whole) (sym pushed) more
