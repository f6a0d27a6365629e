use Rattle.std.proofs.Common.{◌≡◌, map, take}
use Rattle.circuit_core.specs.declared.nodes.NetReg.{NetReg}
use Rattle.circuit_core.specs.View as net
use Rattle.verilog_text.specs.View.{register_of}
use Rattle.verilog_text.specs.inner.Translation as made
use Rattle.verilog_text.proofs.making.registers.Given as goal

abbrev pub invariant-loop-reg : goal.invariant-loop-reg
invariant-loop-reg l = map register_of l.decls
    ≡ map (λ (reg : NetReg). made.register_of l.places.wires (net.register_of reg)) (take l.reg-index l.regs)
