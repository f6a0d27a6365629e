-- From what each part of the front end says to the modules of a text, or why there are none.
use Rattle.std.proofs.Common.{◌≡◌, ◌≢◌, ◌⊎◌, inl, inr, ℕ, None, Some, List, map, Result, Ok, Err, IfOk, IfErr}
use Rattle.std.proofs.Common.{OnOk, ap, ◌∙◌}
use Rattle.std.specs.List.{AllPairs}
use Rattle.psl_lexer.specs.declared.kinds.Token.{Token}
use Rattle.psl_lexer.specs.declared.kinds.LexError.{LexError}
use Rattle.psl_lexer.specs.declared.kinds.LexError.TheVariants as lexer
use Rattle.psl_lexer.specs.Splits.{Splits, Faults}
use Rattle.psl_grammar.specs.RawUnit.{RawUnit}
use Rattle.psl_grammar.specs.Units.{IsUnit}
use Rattle.psl_parser.specs.Depth.{IsToldRightly}
use Rattle.psl_parser.specs.Seen.{seen}
use Rattle.unit_reader.specs.declared.errors.ParseError.{ParseError}
use Rattle.unit_reader.specs.declared.errors.ParseError.TheVariants as parser
use Rattle.unit_rules.specs.declared.errors.UnitError.{UnitError}
use Rattle.unit_rules.specs.declared.errors.UnitError.TheVariants as rule
use Rattle.unit_rules.specs.Source.{source}
use Rattle.unit_rules.specs.Limits.{refusal}
use Rattle.psl_model.specs.declared.refusals.Refusal.{Refusal}
use Rattle.psl_model.specs.declared.refusals.Refusal.TheVariants.{OutOfMemory}
use Rattle.psl_model.specs.Unit.{PslUnit}
use Rattle.verilog_text.specs.Module.{Module}
use Rattle.psl_units.specs.StandsForUnit.{StandsForUnit}
use Rattle.psl_units.specs.Unit.{unit_for}
use Rattle.unit_compile.specs.Offsets.{token_refusal, grammar_refusal, rule_refusal}
use Rattle.unit_compile.specs.Directives.{AreTaken}
use Rattle.unit_compile.specs.Made.{AreMade, AreModulesOf}
use Rattle.unit_compile.specs.Refused.{IsRefused, tokens, grammar, rules, directives}
use Rattle.unit_compile.specs.inner.Unmade.{IsUncompiled}

abbrev pub IsRight : (text : List ℕ) → Refusal → Type 0
IsRight text r = (r ≡ OutOfMemory) ⊎ IsRefused text r

pub token_fault : (text : List ℕ) (error : LexError) (r : Refusal) → (error ≡ lexer.OutOfMemory) ⊎ Faults 0 text error
    → r ≡ token_refusal error → IsRight text r
token_fault text error r (inl memory) told = inl (told ∙ ap token_refusal memory)
token_fault text error r (inr first) told = inr (tokens (record { fault = error; first = first; told = told }))

pub grammar_fault : (text : List ℕ) (ts : List Token) (error : ParseError) (r : Refusal) → Splits 0 text ts
    → IsToldRightly (seen text ts) error → ((raw : RawUnit) → IsUnit text ts raw → error ≡ parser.OutOfMemory)
    → r ≡ grammar_refusal text ts error → IsRight text r
grammar_fault text ts (parser.Syntax token) r split rightly only told =
    inr (grammar (record {
      tokens = ts;
      split = split;
      no_unit = λ raw w. absurd (cc (only raw w));
      fault = parser.Syntax token;
      known = λ e. cc e;
      rightly = rightly;
      told = told;
    }))
grammar_fault text ts (parser.TooDeep token) r split rightly only told =
    inr (grammar (record {
      tokens = ts;
      split = split;
      no_unit = λ raw w. absurd (cc (only raw w));
      fault = parser.TooDeep token;
      known = λ e. cc e;
      rightly = rightly;
      told = told;
    }))
grammar_fault text ts parser.OutOfMemory r split rightly only told = inl told

pub rule_fault : (text : List ℕ) (ts : List Token) (raw : RawUnit) (error : UnitError) (r : Refusal) → Splits 0 text ts
    → IsUnit text ts raw → (error ≡ rule.OutOfMemory) ⊎ (refusal (source text ts) raw ≡ Some error)
    → r ≡ rule_refusal text ts error → IsRight text r
rule_fault text ts raw error r split written (inl memory) told =
    inl (told ∙ ap (λ (e : UnitError). rule_refusal text ts e) memory)
rule_fault text ts raw error r split written (inr first) told =
    inr (rules (record {
      tokens = ts;
      raw = raw;
      split = split;
      written = written;
      fault = error;
      first = first;
      told = told;
    }))

module _ (text : List ℕ) (unit : PslUnit) (stands : StandsForUnit text unit) where
  uncompiled : (r : Refusal) → IsUncompiled unit r → IsRight text r
  uncompiled r (inl memory) = inl memory
  uncompiled r (inr h) = inr (directives (record { unit = unit; stands = stands; first = h }))

  module _ {T : Type 0} (plain : T → List Module) where
    pub unit_refused : (r : Result T Refusal) → IfErr r (IsUncompiled unit) → IfErr r (IsRight text)
    unit_refused (Ok made) h = tt
    unit_refused (Err e) h = uncompiled e h

    pub unit_made : ((modules : List Module) → AreMade unit 1 unit.directives modules
        → AllPairs (λ m n. m ≢ n) (map (λ (m : Module). m.name) modules)) → (r : Result T Refusal)
        → IfOk r (λ made. AreMade unit 1 unit.directives (plain made)) → OnOk r (AreTaken 0 unit.directives)
        → IfOk r (λ made. AreModulesOf text (plain made))
    unit_made distinct (Ok made) h taken =
        record {
          accepted = record { unit = unit; stands = stands; taken = taken };
          made = h;
          distinct = distinct (plain made) h;
        }
    unit_made distinct (Err e) h taken = tt

pub stands_by : (text : List ℕ) (ts : List Token) (raw : RawUnit) (unit : PslUnit) → Splits 0 text ts
    → IsUnit text ts raw → refusal (source text ts) raw ≡ None → unit ≡ unit_for (source text ts) raw
    → StandsForUnit text unit
stands_by text ts raw unit split written lawful meant = record {
  tokens = ts;
  raw = raw;
  split = split;
  written = written;
  lawful = lawful;
  meant = meant;
}
