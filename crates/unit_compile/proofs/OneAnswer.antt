-- A text is refused for one reason at most, and not where checkers are made of it.
use Rattle.std.proofs.Common.{◌≡◌, inl, inr, ℕ, List, Option, None, Some, sym, ap, subst, ◌∙◌}
use Rattle.psl_lexer.specs.declared.kinds.Token.{Token}
use Rattle.psl_lexer.specs.declared.kinds.LexError.{LexError}
use Rattle.psl_lexer.specs.Splits.{Splits, Faults}
use Rattle.psl_grammar.specs.RawUnit.{RawUnit}
use Rattle.psl_grammar.specs.Units.{IsUnit}
use Rattle.unit_rules.specs.declared.errors.UnitError.{UnitError}
use Rattle.unit_rules.specs.Source.{source}
use Rattle.unit_rules.specs.Limits.{refusal}
use Rattle.psl_model.specs.declared.refusals.Refusal.{Refusal}
use Rattle.psl_model.specs.Unit.{PslUnit}
use Rattle.psl_units.specs.StandsForUnit.{StandsForUnit}
use Rattle.unit_compile.specs.Offsets.{token_refusal, rule_refusal}
use Rattle.unit_compile.specs.Directives.{FirstRefusal}
use Rattle.unit_compile.specs.Made.{IsAccepted}
use Rattle.unit_compile.specs.Refused.{IsFaultOfTokens, IsFaultOfGrammar, IsFaultOfRules, IsFaultOfDirectives}
use Rattle.unit_compile.specs.Refused.{IsRefused, tokens, grammar, rules, directives, ComesFor}
use Rattle.unit_compile.proofs.OneRefusal.{OneNumber, OneLarge, NoneLarge, one_first, taken_is_unrefused}

abbrev pub OneSplit : Type 0
OneSplit = (text : List ℕ) (ts others : List Token) → Splits 0 text ts → Splits 0 text others → ts ≡ others

abbrev pub NotBoth : Type 0
NotBoth = (text : List ℕ) (ts : List Token) (fault : LexError) → Splits 0 text ts → Faults 0 text fault → ⊥

abbrev pub OneFault : Type 0
OneFault = (text : List ℕ) (fault other : LexError) → Faults 0 text fault → Faults 0 text other → fault ≡ other

abbrev pub OneTree : Type 0
OneTree = (text : List ℕ) (ts : List Token) (raw other : RawUnit) → IsUnit text ts raw → IsUnit text ts other
    → raw ≡ other

abbrev pub OneUnit : Type 0
OneUnit = (bytes : List ℕ) (unit other : PslUnit) → StandsForUnit bytes unit → StandsForUnit bytes other
    → unit ≡ other

-- the text's tokens are a unit of the grammar
record IsWritten (text : List ℕ) : Type 0 where
  ts : List Token
  raw : RawUnit
  split : Splits 0 text ts
  written : IsUnit text ts raw

written_of : (text : List ℕ) (unit : PslUnit) → StandsForUnit text unit → IsWritten text
written_of text unit h = record { ts = h.tokens; raw = h.raw; split = h.split; written = h.written }

broken_of : (text : List ℕ) (r : Refusal) → IsFaultOfRules text r → IsWritten text
broken_of text r h = record { ts = h.tokens; raw = h.raw; split = h.split; written = h.written }

none_some : (o : Option UnitError) (fault : UnitError) → o ≡ None → o ≡ Some fault → ⊥
none_some o fault p q = cc

module _ (one_split : OneSplit) (not_both : NotBoth) (one_fault : OneFault) (one_tree : OneTree) (one_unit : OneUnit)
    (one_number : OneNumber) (one_large : OneLarge) (none_large : NoneLarge) (text : List ℕ) where
  split_faultless : (ts : List Token) (r : Refusal) → Splits 0 text ts → IsFaultOfTokens text r → ⊥
  split_faultless ts r s h = not_both text ts h.fault s h.first

  written_faultless : (r : Refusal) → IsWritten text → IsFaultOfGrammar text r → ⊥
  written_faultless r w h =
      h.no_unit w.raw
      (subst (λ (ts : List Token). IsUnit text ts w.raw) (one_split text w.ts h.tokens w.split h.split) w.written)

  lawful_unbroken : (unit : PslUnit) (r : Refusal) → StandsForUnit text unit → IsFaultOfRules text r → ⊥
  lawful_unbroken unit r s h =
      let same : s.tokens ≡ h.tokens = one_split text s.tokens h.tokens s.split h.split in
      let again : IsUnit text h.tokens s.raw = subst (λ (ts : List Token). IsUnit text ts s.raw) same s.written in
      let tree : s.raw ≡ h.raw = one_tree text h.tokens s.raw h.raw again h.written in
      let none : refusal (source text h.tokens) h.raw ≡ None =
      subst (λ (raw : RawUnit). refusal (source text h.tokens) raw ≡ None) tree
      (subst (λ (ts : List Token). refusal (source text ts) s.raw ≡ None) same s.lawful) in
      none_some (refusal (source text h.tokens) h.raw) h.fault none h.first

  same_token_fault : (due r : Refusal) → IsFaultOfTokens text due → IsFaultOfTokens text r → r ≡ due
  same_token_fault due r h g =
      g.told ∙ ap token_refusal (one_fault text g.fault h.fault g.first h.first) ∙ sym h.told

  same_rule : (due r : Refusal) → IsFaultOfRules text due → IsFaultOfRules text r → r ≡ due
  same_rule due r h g =
      let same : g.tokens ≡ h.tokens = one_split text g.tokens h.tokens g.split h.split in
      let again : IsUnit text h.tokens g.raw = subst (λ (ts : List Token). IsUnit text ts g.raw) same g.written in
      let tree : g.raw ≡ h.raw = one_tree text h.tokens g.raw h.raw again h.written in
      let first : refusal (source text h.tokens) h.raw ≡ Some g.fault =
      subst (λ (raw : RawUnit). refusal (source text h.tokens) raw ≡ Some g.fault) tree
      (subst (λ (ts : List Token). refusal (source text ts) g.raw ≡ Some g.fault) same g.first) in
      let fault : g.fault ≡ h.fault = same_fault (refusal (source text h.tokens) h.raw) first h.first in
      g.told ∙ ap (λ (ts : List Token). rule_refusal text ts g.fault) same
      ∙ ap (λ (f : UnitError). rule_refusal text h.tokens f) fault ∙ sym h.told
    where
      same_fault : {a b : UnitError} (o : Option UnitError) → o ≡ Some a → o ≡ Some b → a ≡ b
      same_fault o p q = cc

  judged_as : (unit : PslUnit) (r : Refusal) (h : IsFaultOfDirectives text r) → StandsForUnit text unit
      → FirstRefusal 1 0 unit.directives r
  judged_as unit r h s =
      subst (λ (u : PslUnit). FirstRefusal 1 0 u.directives r) (one_unit text h.unit unit h.stands s) h.first

  same_directive : (due r : Refusal) → IsFaultOfDirectives text due → IsFaultOfDirectives text r → r ≡ due
  same_directive due r h g =
      one_first one_number one_large none_large 1 0 h.unit.directives due r h.first (judged_as h.unit r g h.stands)

  -- the second reason against the first
  after_tokens : (due r : Refusal) → IsFaultOfTokens text due → IsRefused text r → ComesFor text due r
  after_tokens due r h (tokens g) = inr (inl (same_token_fault due r h g))
  after_tokens due r h (grammar g) = absurd (split_faultless g.tokens due g.split h)
  after_tokens due r h (rules g) = absurd (split_faultless g.tokens due g.split h)
  after_tokens due r h (directives g) = absurd (split_faultless g.stands.tokens due g.stands.split h)

  after_grammar : (due r : Refusal) → IsFaultOfGrammar text due → IsRefused text r → ComesFor text due r
  after_grammar due r h (tokens g) = absurd (split_faultless h.tokens r h.split g)
  after_grammar due r h (grammar g) = inr (inr (h, g))
  after_grammar due r h (rules g) = absurd (written_faultless due (broken_of text r g) h)
  after_grammar due r h (directives g) = absurd (written_faultless due (written_of text g.unit g.stands) h)

  after_rules : (due r : Refusal) → IsFaultOfRules text due → IsRefused text r → ComesFor text due r
  after_rules due r h (tokens g) = absurd (split_faultless h.tokens r h.split g)
  after_rules due r h (grammar g) = absurd (written_faultless r (broken_of text due h) g)
  after_rules due r h (rules g) = inr (inl (same_rule due r h g))
  after_rules due r h (directives g) = absurd (lawful_unbroken g.unit due g.stands h)

  after_directives : (due r : Refusal) → IsFaultOfDirectives text due → IsRefused text r → ComesFor text due r
  after_directives due r h (tokens g) = absurd (split_faultless h.stands.tokens r h.stands.split g)
  after_directives due r h (grammar g) = absurd (written_faultless r (written_of text h.unit h.stands) g)
  after_directives due r h (rules g) = absurd (lawful_unbroken h.unit r h.stands g)
  after_directives due r h (directives g) = inr (inl (same_directive due r h g))

  pub one_refusal : (due r : Refusal) → IsRefused text due → IsRefused text r → ComesFor text due r
  one_refusal due r (tokens h) g = after_tokens due r h g
  one_refusal due r (grammar h) g = after_grammar due r h g
  one_refusal due r (rules h) g = after_rules due r h g
  one_refusal due r (directives h) g = after_directives due r h g

  pub not_accepted : (r : Refusal) → IsRefused text r → IsAccepted text → ⊥
  not_accepted r (tokens h) a = split_faultless a.stands.tokens r a.stands.split h
  not_accepted r (grammar h) a = written_faultless r (written_of text a.unit a.stands) h
  not_accepted r (rules h) a = lawful_unbroken a.unit r a.stands h
  not_accepted r (directives h) a =
      taken_is_unrefused one_number one_large none_large 1 0 a.unit.directives r a.taken (judged_as a.unit r h a.stands)
