use Rattle.circuit_core.specs.declared.nodes.Reg.{Reg}
use Rattle.circuit_core.specs.Growth.{opened}
use Rattle.circuit_core.proofs.Calls.{register_kept, register_at}
use Rattle.circuit_core.proofs.netlist.Netlist.put_register.Goals as goal

pub returns-clause-kept : goal.returns-clause-kept
returns-clause-kept c =
    register_kept (λ (k : Reg). k.0) c.args.self.now c.push_register.new.self (opened c.args.width c.args.init)
    c.push_register.result c.push_register.ensures.register c.push_register.ensures.err

pub returns-clause-register : goal.returns-clause-register
returns-clause-register c =
    register_at (λ (k : Reg). k.0) c.args.self.now c.push_register.new.self (opened c.args.width c.args.init)
    c.push_register.result c.push_register.ensures.register
