use Rattle.unit_compile.proofs.Answered.{printed, printed_so}
use Rattle.unit_compile.proofs.compiling.compile.Goals as goal

pub returns-in-Ok-clause-compiled : goal.returns-in-Ok-clause-compiled
returns-in-Ok-clause-compiled c =
    printed (λ v. v.items) c.args.text.now c.deref.result.now c.in-Ok.modules.items
    c.modules_of_a_text_check_its_unit.ensures c.deref.ensures.value c.in-Ok.ensures.made c.print_modules.result
    c.print_modules.ensures.text

pub returns-in-Ok-clause-made : goal.returns-in-Ok-clause-made
returns-in-Ok-clause-made c =
    printed_so (λ v. v.items) c.args.text.now c.deref.result.now c.in-Ok.modules.items c.deref.ensures.value
    c.in-Ok.ensures.made c.print_modules.result c.print_modules.ensures.text

pub returns-in-Ok-clause-due : goal.returns-in-Ok-clause-due
returns-in-Ok-clause-due c = λ due h. absurd (c.in-Ok.ensures.due due h)
