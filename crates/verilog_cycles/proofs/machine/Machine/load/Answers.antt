use Rattle.std.proofs.Common.{◌≡◌, ℕ, List, length, sym, subst, rules}
use Rattle.psl_model.specs.Value.{FitWidths}
use Rattle.verilog_text.specs.View.{module_of}
use Rattle.verilog_text.specs.State.{register_widths}
use Rattle.verilog_cycles.proofs.Narrow.{zeroes_fit, zeroes_are}
use Rattle.verilog_cycles.proofs.machine.Machine.load.Goals as goal

pub invariant_of-result : goal.invariant_of-result
invariant_of-result c =
    let m = module_of c.args.checker in
    let state = zeroes_are c.len-2.result c.in_ok-state.state.items c.args.checker.regs
    (c.in_ok-state.ensures.items_if_clones_equal (λ y e. e)) c.len-2.ensures in
    let size : length c.in_ok-table.table.items ≡ length c.in_ok-program.program.nodes.items = search rules in
    record {
      lawful = c.requires;
      program = c.in_ok-program.ensures;
      size = size;
      registers_fit = subst (λ (xs : List ℕ). FitWidths (register_widths m) xs) (sym state) (zeroes_fit m.registers);
    }

pub returns-clause-zeroes : goal.returns-clause-zeroes
returns-clause-zeroes c =
    zeroes_are c.len-2.result c.in_ok-state.state.items c.args.checker.regs
    (c.in_ok-state.ensures.items_if_clones_equal (λ y e. e)) c.len-2.ensures
