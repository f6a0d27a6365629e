-- Answers that say nothing of a text, since memory was refused.
use Rattle.std.specs.Prelude.{◌≡◌}
use Rattle.psl_lexer.specs.declared.kinds.LexError.TheVariants as lexer
use Rattle.unit_reader.specs.declared.errors.ParseError.TheVariants as parser
use Rattle.unit_rules.specs.declared.errors.UnitError.TheVariants as rules
use Rattle.unit_texts.specs.declared.errors.TextError.{TextError}
use Rattle.unit_texts.specs.declared.errors.TextError.TheVariants.{Tokens, Grammar, Rules}

abbrev pub IsMemory : TextError → Type 0
IsMemory (Tokens error) = error ≡ lexer.OutOfMemory
IsMemory (Grammar error) = error ≡ parser.OutOfMemory
IsMemory (Rules error) = error ≡ rules.OutOfMemory
