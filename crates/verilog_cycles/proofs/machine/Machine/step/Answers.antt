use Rattle.std.proofs.Common.{length, arith, ap, ◌∙◌, sym, subst}
use Rattle.std.proofs.lemmas.List.{with_items_is}
use Rattle.psl_model.specs.Value.{FitWidths}
use Rattle.verilog_text.specs.View.{module_of}
use Rattle.verilog_cycles.specs.State.{State}
use Rattle.verilog_text.specs.Interface.{port_widths}
use Rattle.verilog_text.specs.State.{register_widths}
use Rattle.verilog_cycles.specs.Steps.{IsStep}
use Rattle.verilog_cycles.specs.inner.Ready.{Begins}
use Rattle.verilog_cycles.proofs.Narrow.{ports_small}
use Rattle.verilog_cycles.proofs.Step.{state_of, step_is}
use Rattle.verilog_cycles.proofs.Machines.{loaded_on, step_fits, front_is, count_is}
use Rattle.verilog_cycles.proofs.machine.Machine.step.Goals as goal

pub run-requires-clause-front : goal.run-requires-clause-front
run-requires-clause-front c =
    let m = module_of c.self.inside.checker in
    let p = c.self.inside.program in
    let fits : FitWidths (port_widths m.ports) c.args.values.now =
    subst (λ (s : State). FitWidths (port_widths (module_of s.loaded).ports) c.args.values.now) (sym c.self.view_is)
    c.requires in
    let front = front_is m p.first p.nodes.items p.nexts.items p.fail c.args.values.now c.self.inside.state.items
    c.self.invariant.program fits c.self.invariant.registers_fit in
    omega (arith, front, ap length c.deref_mut-2.ensures.value)

pub run-requires-clause-count : goal.run-requires-clause-count
run-requires-clause-count c =
    let m = module_of c.self.inside.checker in
    let p = c.self.inside.program in
    count_is m p.first p.nodes.items p.nexts.items p.fail c.self.inside.state.items c.self.invariant.program
    c.self.invariant.registers_fit
    ∙ sym (ap length c.deref_mut-2.ensures.value)

pub run-requires-clause-small : goal.run-requires-clause-small
run-requires-clause-small c =
    let m = module_of c.self.inside.checker in
    ports_small m c.self.invariant.lawful c.args.values.now
    (subst (λ (s : State). FitWidths (port_widths (module_of s.loaded).ports) c.args.values.now) (sym c.self.view_is)
    c.requires)

abbrev the_step : (c : goal.After-self-2-1) →
    IsStep (module_of c.self.inside.checker) c.args.values.now c.args.eot c.self.inside.state.items c.run.new.state
    c.run.result
the_step c =
    let m = module_of c.self.inside.checker in
    let p = c.self.inside.program in
    let fits : FitWidths (port_widths m.ports) c.args.values.now =
    subst (λ (s : State). FitWidths (port_widths (module_of s.loaded).ports) c.args.values.now) (sym c.self.view_is)
    c.requires in
    let begins : Begins (state_of c.args.eot c.args.values.now c.self.inside.state.items) c.run.new.table =
    subst (λ s. Begins (state_of c.args.eot c.args.values.now s) c.run.new.table) c.deref_mut-2.ensures.value
    c.run.ensures.begins in
    step_is m p.first p.nodes.items p.nexts.items p.fail c.self.invariant.program c.args.eot c.args.values.now
    c.self.inside.state.items
    c.run.new.table c.run.new.state c.run.result fits c.self.invariant.registers_fit begins c.run.ensures.met
    c.run.ensures.taken c.run.ensures.output

pub invariant_of-self : goal.invariant_of-self
invariant_of-self c =
    let m = module_of c.self.inside.checker in
    let p = c.self.inside.program in
    let table = with_items_is c.self.inside.table c.run.new.table (c.run.auto.table ∙ c.deref_mut.ensures.len) in
    let state = with_items_is c.self.inside.state c.run.new.state (c.run.auto.state ∙ c.deref_mut-2.ensures.len) in
    loaded_on m p.first p.nodes.items p.nexts.items p.fail c.self.inside.state.items c.self.inside.table.items _ _
    c.self.invariant
    (ap length table ∙ c.run.auto.table ∙ ap length c.deref_mut.ensures.value)
    (subst (λ s. FitWidths (register_widths m) s) (sym state)
    (step_fits m c.args.values.now c.args.eot c.self.inside.state.items c.run.new.state c.run.result (the_step
    c)))

pub returns-clause-step : goal.returns-clause-step
returns-clause-step c =
    let m = module_of c.self.inside.checker in
    let state = with_items_is c.self.inside.state c.run.new.state (c.run.auto.state ∙ c.deref_mut-2.ensures.len) in
    subst (λ after. IsStep (module_of c.args.self.now.loaded) c.args.values.now c.args.eot c.args.self.now.registers
    after c.run.result) (sym state)
    (subst (λ (s : State). IsStep (module_of s.loaded) c.args.values.now c.args.eot s.registers c.run.new.state
    c.run.result) c.self.view_is (the_step c))
