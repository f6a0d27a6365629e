use Rattle.std.proofs.Common.{List, ℕ, rules, sym, subst}
use Rattle.std.specs.Prelude.{IsSome}
use Rattle.mbac_top.specs.Call.{slot_changes}
use Rattle.mbac_top.specs.inner.Ending.{IsTextOf}
use Rattle.mbac_top.proofs.Ending.{refused, written}
use Rattle.mbac_top.proofs.running.answer.Goals as goal

pub returns-in-Err-clause-cause : goal.returns-in-Err-clause-cause
returns-in-Err-clause-cause g c =
    let some : IsSome c.compile_file.result = search rules in
    refused _ (c.compile_file.ensures.exactly.0 some) c.in-Err.cause c.in-Err.ensures.cause

pub returns-in-Ok-clause-cause : goal.returns-in-Ok-clause-cause
returns-in-Ok-clause-cause g c =
    let some : IsSome c.compile_file.result = search rules in
    let input = slot_changes g.I.Inputs.left g.I.Inputs.faults c.args.inputs.now c.compile_slot.new.inputs 0 in
    let text = subst (λ (t : List ℕ). IsTextOf input t) (sym c.deref.ensures.value) c.in-Ok.ensures.text in
    written _ (c.compile_file.ensures.exactly.0 some) c.deref.result.now text c.write_text.result
    c.write_text.ensures.written
