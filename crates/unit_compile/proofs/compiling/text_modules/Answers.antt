use Rattle.unit_compile.proofs.Texts.{token_fault}
use Rattle.unit_compile.proofs.compiling.text_modules.Goals as goal

pub returns-in-Err-clause-refused : goal.returns-in-Err-clause-refused
returns-in-Err-clause-refused c =
    token_fault c.args.text.now c.in-Err.error c.token_refusal.result c.in-Err.ensures.fault c.token_refusal.ensures
