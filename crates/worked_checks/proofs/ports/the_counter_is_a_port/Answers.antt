use Rattle.worked_checks.proofs.PortNames.{interface}
use Rattle.worked_checks.proofs.ports.the_counter_is_a_port.Goals as goal

pub returns : goal.returns
returns c = interface
