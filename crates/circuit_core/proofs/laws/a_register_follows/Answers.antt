use Rattle.circuit_core.specs.Netlist.{register, one_bit}
use Rattle.circuit_core.specs.Growth.{closed}
use Rattle.circuit_core.proofs.laws.a_register_follows.Goals as goal

pub returns : goal.returns
returns c m r k width initial next at there inputs run h n within =
    (h.nets k (one_bit (register r)) at (closed width initial next) there).goes_on n within
