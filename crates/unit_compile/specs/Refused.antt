-- Why a text has no modules. The reasons stand in the order in which they are looked for, and each presupposes that
-- none before it applies: the first fault of the tokens, a fault of the grammar, the first broken rule, and the first
-- refusal of a directive.
--     IsRefused text r         r is told for such a reason
--     ComesFor text due r      r may be answered where `due` is told for such a reason
use Rattle.std.specs.Prelude.{◌≡◌, ◌≢◌, ◌⊎◌, ℕ, Some, List}
use Rattle.psl_lexer.specs.declared.kinds.Token.{Token}
use Rattle.psl_lexer.specs.declared.kinds.LexError.{LexError}
use Rattle.psl_lexer.specs.Splits.{Splits, Faults}
use Rattle.psl_grammar.specs.RawUnit.{RawUnit}
use Rattle.psl_grammar.specs.Units.{IsUnit}
use Rattle.psl_parser.specs.Depth.{IsToldRightly}
use Rattle.psl_parser.specs.Seen.{seen}
use Rattle.unit_reader.specs.declared.errors.ParseError.{ParseError}
use Rattle.unit_reader.specs.declared.errors.ParseError.TheVariants as parser
use Rattle.unit_rules.specs.declared.errors.UnitError.{UnitError}
use Rattle.unit_rules.specs.Source.{source}
use Rattle.unit_rules.specs.Limits.{refusal}
use Rattle.psl_model.specs.declared.refusals.Refusal.{Refusal}
use Rattle.psl_model.specs.declared.refusals.Refusal.TheVariants.{OutOfMemory}
use Rattle.psl_model.specs.Unit.{PslUnit}
use Rattle.psl_units.specs.StandsForUnit.{StandsForUnit}
use Rattle.unit_compile.specs.Offsets.{token_refusal, grammar_refusal, rule_refusal}
use Rattle.unit_compile.specs.Directives.{FirstRefusal}

pub record IsFaultOfTokens (text : List ℕ) (r : Refusal) : Type 0 where
  pub fault : LexError
  pub first : Faults 0 text fault
  pub told : r ≡ token_refusal fault

-- The tokens are no unit, which is exact. A fault of depth is told of the first token that is too deep, and one of
-- syntax of a token or of the end that has no token before it that is too deep: else which token it is isn't fixed.
pub record IsFaultOfGrammar (text : List ℕ) (r : Refusal) : Type 0 where
  pub tokens : List Token
  pub split : Splits 0 text tokens
  pub no_unit : (raw : RawUnit) → ¬ IsUnit text tokens raw
  pub fault : ParseError
  pub known : fault ≢ parser.OutOfMemory
  pub rightly : IsToldRightly (seen text tokens) fault
  pub told : r ≡ grammar_refusal text tokens fault

pub record IsFaultOfRules (text : List ℕ) (r : Refusal) : Type 0 where
  pub tokens : List Token
  pub raw : RawUnit
  pub split : Splits 0 text tokens
  pub written : IsUnit text tokens raw
  pub fault : UnitError
  pub first : refusal (source text tokens) raw ≡ Some fault
  pub told : r ≡ rule_refusal text tokens fault

pub record IsFaultOfDirectives (text : List ℕ) (r : Refusal) : Type 0 where
  pub unit : PslUnit
  pub stands : StandsForUnit text unit
  pub first : FirstRefusal 1 0 unit.directives r

pub data IsRefused (text : List ℕ) (r : Refusal) : Type 0 where
  tokens : IsFaultOfTokens text r → IsRefused text r
  grammar : IsFaultOfGrammar text r → IsRefused text r
  rules : IsFaultOfRules text r → IsRefused text r
  directives : IsFaultOfDirectives text r → IsRefused text r

-- the refusal itself, or another fault of the grammar; want of memory may come in place of any
abbrev pub ComesFor : (text : List ℕ) → (due r : Refusal) → Type 0
ComesFor text due r = (r ≡ OutOfMemory) ⊎ (r ≡ due) ⊎ (IsFaultOfGrammar text due × IsFaultOfGrammar text r)
