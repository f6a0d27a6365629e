use Rattle.property_circuits.proofs.Growing.{first_circuit}
use Rattle.property_circuits.proofs.circuits.first_cycle.Goals as goal

pub returns-clause-first : goal.returns-clause-first
returns-clause-first c =
    first_circuit c.reg.new.self c.bit.new.self c.set_next.new.self c.in_ok-register.register.0 c.in_ok-register.first.0
    c.in_ok-never.never.0 c.in_ok-register.ensures.net_of c.in_ok-register.ensures.begins c.in_ok-never.ensures.kept
    c.in_ok-never.ensures.stream c.set_next.ensures
