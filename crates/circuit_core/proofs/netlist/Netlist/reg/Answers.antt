use Rattle.circuit_core.specs.Growth.{opened}
use Rattle.circuit_core.proofs.Streams.{register_begins}
use Rattle.circuit_core.proofs.netlist.Netlist.reg.Goals as goal

pub returns-clause-begins : goal.returns-clause-begins
returns-clause-begins c =
    let there = c.in_ok-net.ensures.kept.registers c.in_ok-reg.reg.0 (opened c.args.width c.args.init)
    c.in_ok-reg.ensures.register in
    register_begins c.put.new.self c.in_ok-reg.reg.0 c.in_ok-net.net.0 (opened c.args.width c.args.init)
    c.in_ok-net.ensures.node there
