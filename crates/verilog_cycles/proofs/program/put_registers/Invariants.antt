use Rattle.std.proofs.Common.{◌≡◌, ◌++◌, map, take}
use Rattle.verilog_text.specs.declared.module.RegDecl.{RegDecl}
use Rattle.verilog_cycles.specs.inner.Ready.{AreFront}
use Rattle.verilog_cycles.proofs.program.put_registers.Given as goal

abbrev pub invariant-loop-reg : goal.invariant-loop-reg
invariant-loop-reg l = AreFront l.widths.items l.places.items l.nodes.items
    × (l.widths.items ≡ l.initial.widths.items ++ map (λ (r : RegDecl). r.width) (take l.reg-index l.regs))
