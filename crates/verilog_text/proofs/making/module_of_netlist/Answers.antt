use Rattle.std.proofs.Common.{◌+◌, sym, subst, List}
use Rattle.std.specs.Prelude.{All, IsSomeAnd}
use Rattle.circuit_core.specs.Netlist as plain
use Rattle.verilog_text.specs.inner.Translation.{Fits, NodeFits}
use Rattle.verilog_text.proofs.Translating.{HasRoom, has_room, nodes_fit, nexts_fit}
use Rattle.verilog_text.proofs.making.module_of_netlist.Goals as goal

pub wires-requires : goal.wires-requires
wires-requires c =
    let m = c.args.netlist.now in
    let rs = c.new-places.result.registers in
    let ws = c.new-places.result.wires in
    let room : HasRoom m rs ws = has_room m c.args.ports c.as_slice.result.now rs ws c.as_slice.ensures
    c.requires.widths c.new-places.ensures.registers c.new-places.ensures.wires c.new-places.ensures.room
    c.new-places.ensures.ports in
    subst (λ (nodes : List plain.Node). All (λ (node : plain.Node). NodeFits rs ws node.op) nodes)
    (sym c.nodes.ensures) (nodes_fit m rs ws c.requires.finished room)

pub registers-requires : goal.registers-requires
registers-requires c =
    let m = c.args.netlist.now in
    let rs = c.new-places.result.registers in
    let ws = c.new-places.result.wires in
    let room : HasRoom m rs ws = has_room m c.args.ports c.as_slice.result.now rs ws c.as_slice.ensures
    c.requires.widths c.new-places.ensures.registers c.new-places.ensures.wires c.new-places.ensures.room
    c.new-places.ensures.ports in
    subst
    (λ (xs : List plain.Register). All (λ (x : plain.Register). IsSomeAnd x.next (λ next. Fits (ws + next))) xs)
    (sym c.regs.ensures) (nexts_fit m rs ws c.requires.finished room)
