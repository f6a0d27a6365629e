use Rattle.std.proofs.Common.{ℕ, ◌+◌, map, ap, ◌∙◌, None, List, get_or}
use Rattle.std.proofs.lemmas.List.{get_or_default}
use Rattle.std.specs.Prelude.{IsSomeAnd}
use Rattle.circuit_core.specs.declared.nodes.NetReg.{NetReg}
use Rattle.circuit_core.specs.Netlist as plain
use Rattle.circuit_core.specs.View as net
use Rattle.verilog_text.specs.Module.{Register}
use Rattle.verilog_text.specs.View.{register_of}
use Rattle.verilog_text.specs.inner.Translation as made
use Rattle.verilog_text.specs.inner.Translation.{Fits}
use Rattle.verilog_text.proofs.Translating.{map_step, map_done, all_at}
use Rattle.verilog_text.proofs.making.registers.Goals as goal

abbrev no_register : NetReg
no_register = record { width = 0; init = 0; next = None }

abbrev item : List NetReg → ℕ → NetReg
item regs i = get_or regs i no_register

pub register-decl-requires : goal.register-decl-requires
register-decl-requires c =
    let reg = item c.args.regs.now c.loop-reg.reg-index in
    all_at net.register_of (λ (x : plain.Register). IsSomeAnd x.next (λ next. Fits (c.args.places.wires + next)))
    c.args.regs.now c.loop-reg.reg-index reg c.requires c.loop-reg-test.true
    (get_or_default c.args.regs.now c.loop-reg.reg-index no_register reg c.loop-reg-test.true)

pub loop-reg-preserved : goal.loop-reg-preserved
loop-reg-preserved c =
    let reg = item c.args.regs.now c.loop-reg.reg-index in
    let decl : NetReg → Register = λ r. made.register_of c.args.places.wires (net.register_of r) in
    ap (map register_of) c.in_ok-push.ensures.ok
    ∙ map_step register_of decl c.loop-reg.decls c.register-decl.result c.args.regs.now c.loop-reg.reg-index reg
    c.loop-reg-test.true (get_or_default c.args.regs.now c.loop-reg.reg-index no_register reg c.loop-reg-test.true)
    c.loop-reg.invariant c.register-decl.ensures

pub returns : goal.returns
returns c =
    map_done net.register_of (made.register_of c.args.places.wires) register_of c.loop-reg.decls c.args.regs.now
    c.loop-reg.reg-index c.loop-reg.invariant c.loop-reg-test.false
