use Rattle.std.proofs.Common.{arith}
use Rattle.property_circuits.proofs.laws.check_at.Goals as goal

pub returns-clause-bits : goal.returns-clause-bits
returns-clause-bits c =
    let bits = c.each_register_has_one_bit.ensures in
    let before = bits c.args.net.now c.a_netlist_is_well_made.ensures in
    let after = bits c.check_variant.new.net c.a_netlist_is_well_made-2.ensures in
    omega (arith, before, after, c.in_ok-each.ensures.grows.count)
