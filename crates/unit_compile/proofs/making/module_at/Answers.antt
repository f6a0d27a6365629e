use Rattle.std.proofs.Common.{◌+◌, arith}
use Rattle.psl_model.specs.UnitView.{directive_of}
use Rattle.unit_compile.proofs.Unmade.{taken_so, unmade_so}
use Rattle.unit_compile.proofs.making.module_at.Goals as goal

pub returns-in-Ok-clause-taken : goal.returns-in-Ok-clause-taken
returns-in-Ok-clause-taken c =
    taken_so c.args.before c.in-Ok.made.steps (directive_of c.args.directive.now) c.requires.before
    c.in-Ok.ensures.built c.in-Ok.ensures.steps c.in-Ok.ensures.within

pub returns-in-Err-clause-refused : goal.returns-in-Err-clause-refused
returns-in-Err-clause-refused c =
    unmade_so (c.args.place + 1) _ c.args.before (directive_of c.args.directive.now) c.in-Err.error
    c.check_refusal.result c.in-Err.ensures.refused (omega arith) c.check_refusal.ensures
