-- Where a text is at fault: the offsets at which tokens begin, in place of their numbers.
--     token_refusal, grammar_refusal, rule_refusal     how the faults of the three parts of the front end are told
use Rattle.std.specs.Prelude.{ℕ, List, length, slice_get, Option, None, Some}
use Rattle.psl_lexer.specs.declared.kinds.Token.{Token}
use Rattle.psl_lexer.specs.declared.kinds.LexError.{LexError}
use Rattle.psl_lexer.specs.declared.kinds.LexError.TheVariants as lexer
use Rattle.unit_reader.specs.declared.errors.ParseError.{ParseError}
use Rattle.unit_reader.specs.declared.errors.ParseError.TheVariants as parser
use Rattle.unit_rules.specs.declared.errors.UnitError.{UnitError}
use Rattle.unit_rules.specs.declared.errors.UnitError.TheVariants as rule
use Rattle.psl_model.specs.declared.refusals.Refusal.{Refusal}
use Rattle.psl_model.specs.declared.refusals.Refusal.TheVariants as refusal

-- behind the last token stands the end of the text
abbrev pub start_or : Option Token → (behind : ℕ) → ℕ
start_or (Some token) behind = token.start
start_or None behind = behind

abbrev pub offset_of : (text : List ℕ) → List Token → (token : ℕ) → ℕ
offset_of text tokens token = start_or (slice_get tokens token) (length text)

abbrev pub token_refusal : LexError → Refusal
token_refusal (lexer.BadByte offset) = refusal.BadByte offset
token_refusal (lexer.LeftOut offset) = refusal.LeftOut offset
token_refusal (lexer.NameTooLong offset) = refusal.NameTooLong offset
token_refusal lexer.OutOfMemory = refusal.OutOfMemory

abbrev pub grammar_refusal : (text : List ℕ) → List Token → ParseError → Refusal
grammar_refusal text tokens (parser.Syntax token) = refusal.Syntax (offset_of text tokens token)
grammar_refusal text tokens (parser.TooDeep token) = refusal.TooDeep (offset_of text tokens token)
grammar_refusal text tokens parser.OutOfMemory = refusal.OutOfMemory

abbrev pub rule_refusal : (text : List ℕ) → List Token → UnitError → Refusal
rule_refusal text tokens (rule.DuplicateName token) = refusal.DuplicateName (offset_of text tokens token)
rule_refusal text tokens (rule.BadRange token) = refusal.BadRange (offset_of text tokens token)
rule_refusal text tokens (rule.CountTooLarge token) = refusal.CountTooLarge (offset_of text tokens token)
rule_refusal text tokens (rule.TooManyDirectives token) = refusal.TooManyDirectives (offset_of text tokens token)
rule_refusal text tokens (rule.TooManySignals token) = refusal.TooManySignals (offset_of text tokens token)
rule_refusal text tokens (rule.BadLiteral token) = refusal.BadLiteral (offset_of text tokens token)
rule_refusal text tokens (rule.BadSelect token) = refusal.BadSelect (offset_of text tokens token)
rule_refusal text tokens (rule.TooWide token) = refusal.TooWide (offset_of text tokens token)
rule_refusal text tokens (rule.ConstantArithmetic token) = refusal.ConstantArithmetic (offset_of text tokens token)
rule_refusal text tokens (rule.TooTall directive depth) = refusal.TooTall directive depth
rule_refusal text tokens (rule.TooLarge directive nodes) = refusal.TooLarge directive nodes
rule_refusal text tokens rule.OutOfMemory = refusal.OutOfMemory
