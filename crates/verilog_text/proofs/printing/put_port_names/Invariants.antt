use Rattle.std.proofs.Common.{◌≡◌, ◌++◌, take}
use Rattle.std.specs.Prelude.{codes, flat_map}
use Rattle.psl_model.specs.declared.names.Signal.{Signal}
use Rattle.verilog_text.specs.Growth.{Extends}
use Rattle.verilog_text.proofs.printing.put_port_names.Given as goal

abbrev pub invariant-loop-port : goal.invariant-loop-port
invariant-loop-port l =
    (l.out.items ≡ l.initial.out.items ++ flat_map (λ (p : Signal). p.name ++ codes ", ") (take l.port-index l.ports))
    × Extends l.initial.out.items l.out.items
