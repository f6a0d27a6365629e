use Rattle.std.proofs.Common.{◌≡◌, ℕ, ◌+◌, ◌-◌, ◌<◌, false, List, [], ◌∷◌, ◌++◌, length, map, sym, ap, subst, ◌∙◌}
use Rattle.std.proofs.Common.{arith, Some}
use Rattle.std.proofs.lemmas.Bool.Decides.{nat_tests}
use Rattle.std.proofs.lemmas.List.{map-append}
use Rattle.std.proofs.lemmas.Result.{err_from_is_err_and}
use Rattle.std.specs.Prelude.{Option, ◌==◌}
use Rattle.indexmap.specs.IndexMap.{keys, values}
use Rattle.verilog_text.specs.Module.{Module}
use Rattle.verilog_text.specs.View.{module_of}
use Rattle.verilog_reader.specs.inner.Answers.{Halts}
use Rattle.verilog_reader.specs.inner.Lines.{State, add, modules_at}
use Rattle.verilog_reader.proofs.ModuleLists.{followed, name_stopped, module_more}
use Rattle.verilog_reader.proofs.lists.read_all.Goals as goal

positive : (n : ℕ) → false ≡ (n == 0) → 0 < n
positive n e = grind (arith, nat_tests)

pub returns-in_err-put_name : goal.returns-in_err-put_name
returns-in_err-put_name c =
    let whole : Option (List Module) = modules_at (length c.args.bytes.now) ([], []) c.args.bytes.now in
    let seen : State = (keys c.modules.seen, values c.modules.seen) in
    let halts =
    subst (λ (name : List ℕ). Halts c.in_err-put_name.field-0.0 (add seen name 1)) c.in_ok-name.ensures.equal
    c.in_err-put_name.ensures in
    let p = err_from_is_err_and c.from_residual-in_err-put_name.result c.from_residual-in_err-put_name.ensures.1 in
    rw (p.1, p.2) (name_stopped whole (map module_of c.modules.modules.items) (length c.args.bytes.now) c.modules.most
    seen c.modules.rest.now
    c.in_err-put_name.field-0.0 (module_of c.in_ok-checker.checker) c.in_ok-checker.after.now c.modules-test.true
    (positive (length c.modules.rest.now) c.if-is_empty.ensures) c.modules.invariant c.in_ok-checker.ensures halts)

pub modules-preserved : goal.modules-preserved
modules-preserved c =
    let whole : Option (List Module) = modules_at (length c.args.bytes.now) ([], []) c.args.bytes.now in
    let seen : State = (keys c.modules.seen, values c.modules.seen) in
    let next : State = (keys c.put_name.new.table, values c.put_name.new.table) in
    let new =
    subst (λ (name : List ℕ). add seen name 1 ≡ Some next) c.in_ok-name.ensures.equal c.in_ok-put_name.ensures in
    let more = module_more whole (map module_of c.modules.modules.items) (length c.args.bytes.now) c.modules.most seen
    c.modules.rest.now
    (module_of c.in_ok-checker.checker) c.in_ok-checker.after.now next c.modules-test.true
    (positive (length c.modules.rest.now) c.if-is_empty.ensures) c.modules.invariant c.in_ok-checker.ensures
    new in
    let pushed : map module_of c.push.new.self.items ≡ map module_of c.modules.modules.items
    ++ module_of c.in_ok-checker.checker ∷ [] =
    ap (map module_of) c.in_ok-push.ensures.items ∙ map-append module_of c.modules.modules.items
    (c.in_ok-checker.checker ∷ []) in
    subst (λ (xs : List Module). followed xs
    (modules_at (length c.args.bytes.now - (c.modules.most + 1)) next c.in_ok-checker.after.now) ≡ whole)
    (sym pushed) more
