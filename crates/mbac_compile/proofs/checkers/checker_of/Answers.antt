use Rattle.std.proofs.Common.{◌≡◌, List, ℕ, subst, sym, arith}
use Rattle.std.proofs.lemmas.Result.{err_from_is_err_and}
use Rattle.psl_rewrite.specs.View.{base_of}
use Rattle.psl_rewrite.specs.Meaning.{named}
use Rattle.circuit_meaning.specs.Checks as circuit
use Rattle.verilog_text.specs.View.{module_of}
use Rattle.checked_modules.specs.Readings.{ReadsAs}
use Rattle.mbac_compile.proofs.Bits.{same_bits, ports_have_widths}
use Rattle.mbac_compile.proofs.checkers.checker_of.Goals as goal

pub check_circuit-requires-clause-widths : goal.check_circuit-requires-clause-widths
check_circuit-requires-clause-widths c =
    ports_have_widths c.args.ports.items c.args.widths.now c.requires.interface.ports c.requires.widths

pub returns-clause-checks : goal.returns-clause-checks
returns-clause-checks c all places f reads =
    let m = c.in_ok-circuit.circuit.netlist in
    let made = module_of c.in_ok-checker.checker in
    let inner = named (base_of c.args.base.now) in
    let same : m.widths ≡ c.args.widths.now = c.in_ok-circuit.ensures.widths in
    let reads_so : ReadsAs all places m.widths f inner =
    subst (λ (ws : List ℕ). ReadsAs all places ws f inner) (sym same) reads in
    let checks : circuit.Checks m m.widths inner =
    subst (λ (ws : List ℕ). circuit.Checks m ws inner) (sym same) c.in_ok-circuit.ensures.checks in
    c.a_module_of_a_checking_netlist_checks.ensures m made all places f inner reads_so checks
    c.in_ok-checker.ensures.stream

pub returns-clause-bits : goal.returns-clause-bits
returns-clause-bits c =
    omega (
      arith,
      same_bits c.in_ok-circuit.circuit.netlist (module_of c.in_ok-checker.checker) c.in_ok-checker.ensures.registers,
      c.in_ok-circuit.ensures.bits,
    )

pub returns-in_err-circuit-clause-too_many_places : goal.returns-in_err-circuit-clause-too_many_places
returns-in_err-circuit-clause-too_many_places c n p =
    let q = err_from_is_err_and c.from_residual.result c.from_residual.ensures.1 in
    let law = c.check_circuit.ensures.too_many_places n p in
    (λ h. law.0 (cc (h, c.in_err-circuit.was, q.1, q.2)), λ h. cc (law.1 h, c.in_err-circuit.was, q.1, q.2))

pub returns-in_err-checker-clause-too_many_places : goal.returns-in_err-checker-clause-too_many_places
returns-in_err-checker-clause-too_many_places c n p =
    let q = err_from_is_err_and c.from_residual-in_err-checker.result c.from_residual-in_err-checker.ensures.1 in
    let law = c.check_circuit.ensures.too_many_places n p in
    (λ h. absurd (cc (h, q.1, q.2)), λ h. absurd (cc (law.1 h, c.in_ok-circuit.was)))

pub returns-clause-too_many_places : goal.returns-clause-too_many_places
returns-clause-too_many_places c n p =
    let law = c.check_circuit.ensures.too_many_places n p in
    (λ h. absurd (cc (h)), λ h. absurd (cc (law.1 h, c.in_ok-circuit.was)))
