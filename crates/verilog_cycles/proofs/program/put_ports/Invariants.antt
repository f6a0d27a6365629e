use Rattle.std.proofs.Common.{◌≡◌, ◌++◌, map, take}
use Rattle.psl_model.specs.declared.names.Signal.{Signal}
use Rattle.verilog_cycles.specs.inner.Ready.{AreFront}
use Rattle.verilog_cycles.proofs.program.put_ports.Given as goal

abbrev pub invariant-loop-port : goal.invariant-loop-port
invariant-loop-port l = AreFront l.widths.items l.places.items l.nodes.items
    × (l.widths.items ≡ l.initial.widths.items ++ map (λ (p : Signal). p.width) (take l.port-index l.ports))
