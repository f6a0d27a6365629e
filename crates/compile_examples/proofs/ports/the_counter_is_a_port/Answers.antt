use Rattle.compile_examples.proofs.PortNames.{interface}
use Rattle.compile_examples.proofs.ports.the_counter_is_a_port.Goals as goal

pub returns : goal.returns
returns c = interface
