use Rattle.circuit_core.proofs.Making.{output_set}
use Rattle.circuit_core.proofs.Growth.{output_runs}
use Rattle.circuit_core.proofs.netlist.Netlist.finish.Goals as goal

pub invariant_of-self : goal.invariant_of-self
invariant_of-self c = output_set c.args.self.now _ c.self.view_is c.self.invariant c.args.fail.0 c.requires

pub returns-clause-runs : goal.returns-clause-runs
returns-clause-runs c = output_runs c.args.self.now _ c.args.fail.0 c.self.view_is
