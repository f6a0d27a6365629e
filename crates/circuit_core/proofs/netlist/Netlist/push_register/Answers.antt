use Rattle.std.proofs.Common.{None}
use Rattle.std.proofs.lemmas.List.{map_push}
use Rattle.circuit_core.specs.View.{register_of}
use Rattle.circuit_core.proofs.Making.{pushed_register}
use Rattle.circuit_core.proofs.netlist.Netlist.push_register.Goals as goal

pub invariant_of-self-2 : goal.invariant_of-self-2
invariant_of-self-2 c =
    pushed_register c.args.self.now _ c.self.view_is c.self.invariant c.args.width c.args.init _
    (rw c.in_ok-push.ensures.items
    (map_push register_of c.self.inside.regs.items (record { width = c.args.width; init = c.args.init; next = None })))
    c.requires.width c.requires.fits
