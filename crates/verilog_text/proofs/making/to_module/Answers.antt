use Rattle.std.proofs.Common.{◌≡◌, ℕ, List, Option, length, subst, sym, ap, ◌∙◌}
use Rattle.std.proofs.lemmas.List.{length-map}
use Rattle.psl_model.specs.declared.names.Signal.{Signal}
use Rattle.circuit_core.specs.Netlist.{Netlist}
use Rattle.verilog_text.specs.Module.{Module, IsLawful}
use Rattle.verilog_text.specs.Stream.{HasRegistersOf, KeepsStream}
use Rattle.verilog_text.specs.inner.Translation.{Face, first_register, first_wire, wire_of, module_for}
use Rattle.verilog_text.proofs.KeptStream.{keeps_stream}
use Rattle.verilog_text.proofs.Lawfulness.{lawful}
use Rattle.verilog_text.proofs.Translating.{has_registers}
use Rattle.verilog_text.proofs.making.to_module.Goals as goal

abbrev face : List ℕ → Option (List ℕ) → List Signal → Face
face name report ports = record { name = name; report = report; ports = ports }

-- the module that was made, over the ports as they were handed in
same : (m : Netlist) (name : List ℕ) (report : Option (List ℕ)) (ports watched : List Signal) (M : Module) →
    M ≡ module_for m (face name report watched) → watched ≡ ports → module_for m (face name report ports) ≡ M
same m name report ports watched M made kept =
    sym (made ∙ ap (λ (ps : List Signal). module_for m (face name report ps)) kept)

pub returns-clause-lawful : goal.returns-clause-lawful
returns-clause-lawful c =
    let law = c.a_moved_expression_is_the_same.ensures in
    subst (λ (M : Module). IsLawful M)
    (same c.args.netlist.now c.args.name c.args.report c.args.ports.items c.from_vec.result _ c.in_ok-made.ensures
    c.from_vec.ensures)
    (lawful law.valid law.parentheses c.args.netlist.now (face c.args.name c.args.report c.args.ports.items)
    c.requires.finished c.requires.interface c.requires.widths)

pub returns-clause-registers : goal.returns-clause-registers
returns-clause-registers c =
    subst (λ (M : Module). HasRegistersOf c.args.netlist.now M)
    (same c.args.netlist.now c.args.name c.args.report c.args.ports.items c.from_vec.result _ c.in_ok-made.ensures
    c.from_vec.ensures)
    (has_registers c.args.netlist.now (face c.args.name c.args.report c.args.ports.items))

pub returns-clause-wires : goal.returns-clause-wires
returns-clause-wires c =
    ap (λ (M : Module). length M.wires) c.in_ok-made.ensures
    ∙ length-map c.args.netlist.now.nodes
    (wire_of (first_register c.from_vec.result) (first_wire c.args.netlist.now c.from_vec.result))

pub returns-clause-stream : goal.returns-clause-stream
returns-clause-stream c =
    let law = c.a_moved_expression_is_the_same.ensures in
    subst (λ (M : Module). KeepsStream c.args.netlist.now M)
    (same c.args.netlist.now c.args.name c.args.report c.args.ports.items c.from_vec.result _ c.in_ok-made.ensures
    c.from_vec.ensures)
    (keeps_stream law.width law.value c.args.netlist.now (face c.args.name c.args.report c.args.ports.items)
    c.requires.finished c.requires.widths)
