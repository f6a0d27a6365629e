use Rattle.std.proofs.Common.{◌≡◌}
use Rattle.circuit_core.specs.Run.{number, InEachCycle}
use Rattle.std.proofs.lemmas.Result.{IfOk-weaker}
use Rattle.circuit_core.specs.declared.nodes.Net.{Net}
use Rattle.circuit_core.proofs.Streams.{bit_stream}
use Rattle.circuit_core.proofs.netlist.Netlist.bit.Goals as goal

pub returns-clause-stream : goal.returns-clause-stream
returns-clause-stream c =
    IfOk-weaker c.put.result _
    (λ (k : Net). InEachCycle c.put.new.self (λ run n. run k.0 n ≡ number c.args.value))
    (λ k at. bit_stream c.put.new.self k.0 c.args.value at) c.put.ensures.node
