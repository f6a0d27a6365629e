use Rattle.circuit_core.proofs.OneRun.{same_runs}
use Rattle.circuit_core.proofs.laws.a_finished_netlist_has_one_run.Goals as goal

pub returns : goal.returns
returns c m inputs first second done f s n within k is = same_runs m inputs first second done f s n within k is
