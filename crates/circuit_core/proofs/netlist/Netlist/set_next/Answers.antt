use Rattle.std.proofs.Common.{refl, Some}
use Rattle.std.proofs.lemmas.List.{map-set}
use Rattle.circuit_core.specs.View.{register_of}
use Rattle.circuit_core.proofs.Setting.{seen_set, seen_made}
use Rattle.circuit_core.proofs.netlist.Netlist.set_next.Goals as goal

pub invariant_of-self : goal.invariant_of-self
invariant_of-self c =
    let regs = c.self.inside.regs.items in
    let x = c.index_mut.result.now in
    seen_made regs c.args.self.now _ c.self.view_is refl c.args.reg.0 c.args.next.0 x c.index_mut.ensures.value
    c.requires.unset _
    (map-set register_of regs c.args.reg.0 (record { width = x.width; init = x.init; next = Some c.args.next }))
    c.self.invariant c.requires.next

pub returns : goal.returns
returns c =
    let regs = c.self.inside.regs.items in
    let x = c.index_mut.result.now in
    seen_set regs c.args.self.now _ c.self.view_is refl c.args.reg.0 c.args.next.0 x c.index_mut.ensures.value
    c.requires.unset _
    (map-set register_of regs c.args.reg.0 (record { width = x.width; init = x.init; next = Some c.args.next }))
