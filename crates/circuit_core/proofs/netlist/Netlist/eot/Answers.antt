use Rattle.std.proofs.Common.{◌≡◌}
use Rattle.circuit_core.specs.Run.{truth, Throughout, InEachRun}
use Rattle.std.proofs.lemmas.Result.{IfOk-weaker}
use Rattle.circuit_core.specs.declared.nodes.Net.{Net}
use Rattle.circuit_core.proofs.Streams.{eot_stream}
use Rattle.circuit_core.proofs.netlist.Netlist.eot.Goals as goal

pub returns-clause-stream : goal.returns-clause-stream
returns-clause-stream c =
    IfOk-weaker c.put.result _
    (λ (k : Net). InEachRun c.put.new.self (λ inputs run. Throughout inputs (λ n. run k.0 n ≡ truth (inputs.eot n))))
    (λ k at. eot_stream c.put.new.self k.0 at) c.put.ensures.node
