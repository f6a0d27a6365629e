use Rattle.unit_compile.proofs.Texts.{grammar_fault}
use Rattle.unit_compile.proofs.compiling.token_modules.Goals as goal

pub returns-in-Err-clause-refused : goal.returns-in-Err-clause-refused
returns-in-Err-clause-refused c =
    grammar_fault c.args.text.now c.args.tokens.now c.in-Err.error c.grammar_refusal.result c.requires.split
    c.in-Err.ensures.told c.in-Err.ensures.only c.grammar_refusal.ensures
