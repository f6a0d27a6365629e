use Rattle.std.proofs.Common.{◌≡◌, ap}
use Rattle.verilog_text.specs.Run.{Cycle}
use Rattle.verilog_text.proofs.OneRun.{same_cycle}
use Rattle.verilog_text.proofs.laws.inputs_and_registers_determine_the_wires.Goals as goal

pub returns : goal.returns
returns k = λ m lawful reset eot ports registers fits c d is_c is_d settled_c settled_d.
    let law = k.an_expression_reads_its_own_signals.ensures.value in
    let same : c ≡ d =
    same_cycle law m lawful reset eot ports registers fits c d is_c is_d settled_c settled_d in
    (ap (λ (x : Cycle). x.wires) same, ap (λ (x : Cycle). x.fail) same)
