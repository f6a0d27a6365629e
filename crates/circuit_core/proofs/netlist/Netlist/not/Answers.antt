use Rattle.std.specs.Prelude.{◌↔◌}
use Rattle.circuit_core.specs.Run.{On, InEachCycle}
use Rattle.std.proofs.lemmas.Result.{IfOk-weaker}
use Rattle.circuit_core.specs.declared.nodes.Net.{Net}
use Rattle.circuit_core.proofs.Streams.{not_stream}
use Rattle.circuit_core.proofs.netlist.Netlist.not.Goals as goal

pub returns-clause-stream : goal.returns-clause-stream
returns-clause-stream c =
    IfOk-weaker c.put.result _
    (λ (k : Net). InEachCycle c.put.new.self (λ run n. On (run k.0) n ↔ ¬ On (run c.args.a.0) n))
    (λ k at. not_stream c.put.new.self k.0 c.args.a.0 at) c.put.ensures.node
