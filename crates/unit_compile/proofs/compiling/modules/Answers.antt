use Rattle.std.proofs.Common.{map}
use Rattle.verilog_text.specs.View.{module_of}
use Rattle.unit_compile.proofs.Answered.{when_accepted, when_due}
use Rattle.unit_compile.proofs.compiling.modules.Goals as goal

pub returns-clause-accepted : goal.returns-clause-accepted
returns-clause-accepted c =
    when_accepted (λ v. map module_of v.items) c.args.text.now
    (c.a_text_has_one_answer.ensures.not_both c.args.text.now) c.text_modules.result c.text_modules.ensures.refused

pub returns-clause-due : goal.returns-clause-due
returns-clause-due c =
    when_due (λ v. map module_of v.items) c.args.text.now (c.a_text_has_one_answer.ensures.one c.args.text.now)
    (c.a_text_has_one_answer.ensures.not_both c.args.text.now) c.text_modules.result c.text_modules.ensures.made
    c.text_modules.ensures.refused
