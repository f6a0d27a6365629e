use Rattle.std.proofs.Common.{List, ℕ, subst, sym}
use Rattle.psl_model.specs.declared.names.Signal.{Signal}
use Rattle.verilog_text.specs.Interface.{IsInterface}
use Rattle.worked_checks.proofs.LetterPorts.{interface}
use Rattle.worked_checks.proofs.netlist_texts.text.Goals as goal

pub to_module-requires-clause-interface : goal.to_module-requires-clause-interface
to_module-requires-clause-interface c =
    subst (λ (name : List ℕ). IsInterface name c.args.report c.in_ok-ports.field-0.items)
    (sym c.in_ok-name.ensures.same_bytes)
    (subst (λ (ports : List Signal). IsInterface _ c.args.report ports) (sym c.in_ok-ports.ensures)
    (interface c.args.report c.requires.report))
