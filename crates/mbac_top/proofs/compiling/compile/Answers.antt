use Rattle.mbac_top.proofs.Compiled.{why_uncompiled}
use Rattle.mbac_top.proofs.compiling.compile.Goals as goal

pub returns-in-Ok-clause-text : goal.returns-in-Ok-clause-text
returns-in-Ok-clause-text c = (c.in-Ok.ensures.compiled, c.in-Ok.ensures.made)

pub returns-in-Err-clause-cause : goal.returns-in-Err-clause-cause
returns-in-Err-clause-cause c =
    why_uncompiled c.args.bytes.now c.in-Err.refusal c.cause_of.result c.in-Err.ensures.refused c.cause_of.ensures
