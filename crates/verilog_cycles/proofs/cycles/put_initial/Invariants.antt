use Rattle.std.proofs.Common.{◌≡◌, length, map, take}
use Rattle.verilog_text.specs.declared.module.RegDecl.{RegDecl}
use Rattle.verilog_cycles.proofs.cycles.put_initial.Given as goal

abbrev pub invariant-loop-at : goal.invariant-loop-at
invariant-loop-at l = (length l.state ≡ length l.regs) × (take l.at l.state ≡ map (λ (r : RegDecl). r.init) (take l.at
    l.regs))
