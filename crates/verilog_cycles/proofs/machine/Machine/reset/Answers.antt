use Rattle.std.proofs.Common.{◌≡◌, ◌<◌, ◌^◌, length, map, arith, ap, ◌∙◌, sym, subst}
use Rattle.std.proofs.lemmas.List.{length-map, with_items_is}
use Rattle.std.specs.Prelude.{All}
use Rattle.psl_model.specs.Value.{FitWidths}
use Rattle.verilog_text.specs.Module.{Register}
use Rattle.verilog_text.specs.View.{module_of, register_of}
use Rattle.verilog_text.specs.declared.module.RegDecl.{RegDecl}
use Rattle.verilog_cycles.specs.State.{State}
use Rattle.verilog_text.specs.State.{register_widths}
use Rattle.verilog_cycles.specs.Steps.{reset_values}
use Rattle.verilog_cycles.proofs.Narrow.{fit_length, initial_fits, initials_small}
use Rattle.verilog_cycles.proofs.Machines.{initials, initials_each, loaded_on}
use Rattle.verilog_cycles.proofs.machine.Machine.reset.Goals as goal

pub put_initial-requires-clause-count : goal.put_initial-requires-clause-count
put_initial-requires-clause-count c =
    let m = module_of c.self.inside.checker in
    omega (
      arith,
      ap length c.as_slice.ensures,
      ap length c.deref_mut.ensures.value,
      fit_length (register_widths m) c.self.inside.state.items c.self.invariant.registers_fit,
      length-map m.registers (λ (r : Register). r.width),
      length-map c.self.inside.checker.regs register_of,
    )

pub put_initial-requires-clause-small : goal.put_initial-requires-clause-small
put_initial-requires-clause-small c =
    let m = module_of c.self.inside.checker in
    subst (λ rs. All (λ (r : RegDecl). r.init < 2 ^ 64) rs) (sym c.as_slice.ensures)
    (initials_each (λ x. x < 2 ^ 64) c.self.inside.checker.regs (initials_small m c.self.invariant.lawful))

abbrev the_state : (c : goal.After-self-1) → c.put_initial.new.state ≡ reset_values (module_of c.self.inside.checker)
the_state c =
    c.put_initial.ensures ∙ ap (map (λ (r : RegDecl). r.init)) c.as_slice.ensures ∙ initials c.self.inside.checker.regs

pub invariant_of-self : goal.invariant_of-self
invariant_of-self c =
    let m = module_of c.self.inside.checker in
    let program = c.self.inside.program in
    let state = with_items_is c.self.inside.state c.put_initial.new.state (c.put_initial.auto.state ∙
    c.deref_mut.ensures.len) in
    loaded_on m program.first program.nodes.items program.nexts.items program.fail c.self.inside.state.items
    c.self.inside.table.items _ c.self.inside.table.items
    c.self.invariant (omega arith)
    (subst (λ s. FitWidths (register_widths m) s) (sym (state ∙ the_state c)) (initial_fits m
    c.self.invariant.lawful))

pub returns-clause-registers : goal.returns-clause-registers
returns-clause-registers c =
    with_items_is c.self.inside.state c.put_initial.new.state (c.put_initial.auto.state ∙ c.deref_mut.ensures.len)
    ∙ the_state c ∙ ap (λ (s : State). reset_values (module_of s.loaded)) c.self.view_is
