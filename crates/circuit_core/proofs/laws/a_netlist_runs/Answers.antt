use Rattle.circuit_core.proofs.Exists.{the_run, runs}
use Rattle.circuit_core.proofs.laws.a_netlist_runs.Goals as goal

pub returns : goal.returns
returns c m inputs well = (the_run m inputs, runs m inputs well)
