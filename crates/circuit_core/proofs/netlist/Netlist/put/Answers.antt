use Rattle.circuit_core.specs.declared.nodes.Net.{Net}
use Rattle.circuit_core.specs.Netlist.{one_bit}
use Rattle.circuit_core.specs.View.{op_of}
use Rattle.circuit_core.proofs.Calls.{node_kept, node_at}
use Rattle.circuit_core.proofs.netlist.Netlist.put.Goals as goal

pub returns-clause-kept : goal.returns-clause-kept
returns-clause-kept c =
    node_kept (λ (k : Net). k.0) c.args.self.now c.push.new.self (one_bit (op_of c.args.op)) c.push.result
    c.push.ensures.node c.push.ensures.err

pub returns-clause-node : goal.returns-clause-node
returns-clause-node c =
    node_at (λ (k : Net). k.0) c.args.self.now c.push.new.self (one_bit (op_of c.args.op)) c.push.result
    c.push.ensures.node
