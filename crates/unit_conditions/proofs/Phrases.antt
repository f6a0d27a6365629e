-- Each signal's place of a phrase is a name.
use Rattle.std.proofs.Common.{ℕ, Bool, List, Option}
use Rattle.psl_grammar.specs.declared.symbols.Symbol.{Symbol}
use Rattle.psl_grammar.specs.declared.symbols.Symbol.TheVariants as symbol
use Rattle.psl_grammar.specs.Symbols.{At}
use Rattle.psl_grammar.specs.RawExpr.{RawExpr}
use Rattle.psl_grammar.specs.RawSere.{RawSere}
use Rattle.psl_grammar.specs.RawProp.{RawProp}
use Rattle.psl_grammar.specs.TreeNames.{ExprNames, SereNames, OnNames, PropNames}
use Rattle.psl_grammar.specs.ExprGrammar.{IsExpr, whole, bit, part, literally, parens, prefixed, joined, chosen, looser}
use Rattle.psl_grammar.specs.SereGrammar as s
use Rattle.psl_grammar.specs.SereGrammar.{IsTimed, IsSere, IsSeq}
use Rattle.psl_grammar.specs.PropGrammar as g
use Rattle.psl_grammar.specs.PropGrammar.{IsParen, IsNextForm, Phrase, IsProp}

-- nothing is asked of the names of sequences and properties
abbrev pub Any : ℕ → Type 0
Any n = Unit {0}

module _ (symbols : List Symbol) (N : ℕ → Type 0) (named : (n : ℕ) → At symbols n symbol.Name → N n) where
  expr_named : {room level : ℕ} {a : RawExpr} {i j : ℕ} → IsExpr symbols room level a i j → ExprNames N a
  expr_named (whole {i = i} h) = named i h
  expr_named (bit {i = i} h a b c) = named i h
  expr_named (part {i = i} h a b c d e) = named i h
  expr_named (literally h) = tt
  expr_named (parens h p q) = expr_named p
  expr_named (prefixed h p) = expr_named p
  expr_named (joined lt p o q) = (expr_named p, expr_named q)
  expr_named (chosen p o v w x) = (expr_named p, expr_named v, expr_named x)
  expr_named (looser p) = expr_named p

  timed_named : {room : ℕ} {braced : Bool} {t : RawSere} {i j : ℕ} → IsTimed symbols room braced t i j
      → SereNames N Any t
  timed_named (s.once p) = expr_named p.0
  timed_named (s.picked p c) = expr_named p.0
  timed_named (s.IsTimed.again p c) = timed_named p

  sere_named : {room level : ℕ} {t : RawSere} {i j : ℕ} → IsSere symbols room level t i j → SereNames N Any t
  sere_named (s.braces a p z) = sere_named p
  sere_named (s.name a) = tt
  sere_named (s.alone c) = tt
  sere_named (s.IsSere.again p c) = sere_named p
  sere_named (s.timed p) = timed_named p
  sere_named (s.joins lt p o q) = (sere_named p, sere_named q)
  sere_named (s.IsSere.looser p) = sere_named p

  pub seq_named : {room : ℕ} {t : RawSere} {i j : ℕ} → IsSeq symbols room t i j → SereNames N Any t
  seq_named (s.tight p) = sere_named p
  seq_named (s.IsSeq.timed p) = timed_named p

  paren_named : {room : ℕ} {a : RawExpr} {i j : ℕ} → IsParen symbols room a i j → ExprNames N a
  paren_named (g.paren a p q) = expr_named p

  form_named : {room : ℕ} {on : Option RawExpr} {low high : Option ℕ} {i j : ℕ} → IsNextForm symbols room on low high i
      j
      → OnNames N on
  form_named (g.IsNextForm.next a) = tt
  form_named (g.next_count a c) = tt
  form_named (g.next_range a c) = tt
  form_named (g.event a p) = paren_named p
  form_named (g.event_count a p c) = paren_named p
  form_named (g.event_range a p c) = paren_named p

  pub prop_named : {room : ℕ} {phrase : Phrase} {f : RawProp} {i j : ℕ} → IsProp symbols room phrase f i j
      → PropNames N Any Any f
  prop_named (g.parens a h nb c) = prop_named h
  prop_named (g.named a) = tt
  prop_named (g.weak p) = sere_named p
  prop_named (g.strong p a) = sere_named p
  prop_named (g.negated a h) = prop_named h
  prop_named (g.factor_bool p) = expr_named p
  prop_named (g.factor_primary p) = prop_named p
  prop_named (g.both_bool p) = expr_named p
  prop_named (g.both_factor p) = prop_named p
  prop_named (g.both_and p a q nb) = (prop_named p, prop_named q)
  prop_named (g.either_bool p) = expr_named p
  prop_named (g.either_both p) = prop_named p
  prop_named (g.either_or p a q nb) = (prop_named p, prop_named q)
  prop_named (g.hdl_bool p) = expr_named p
  prop_named (g.hdl_either p) = prop_named p
  prop_named (g.low_timed p) = timed_named p
  prop_named (g.low_strong p a) = timed_named p
  prop_named (g.low_hdl p) = prop_named p
  prop_named (g.abt_abort h a q) = (prop_named h, expr_named q.0)
  prop_named (g.abt_low p) = prop_named p
  prop_named (g.occ_eventually a h) = prop_named h
  prop_named (g.occ_next f h) = (form_named f, prop_named h)
  prop_named (g.occ_abt p) = prop_named p
  prop_named (g.untl_until p a q) = (prop_named p, prop_named q)
  prop_named (g.untl_occ p) = prop_named p
  prop_named (g.suff_suffix q a h) = (seq_named q, prop_named h)
  prop_named (g.suff_untl p) = prop_named p
  prop_named (g.impl_implies p a q) = (prop_named p, prop_named q)
  prop_named (g.impl_iff p a q) = (prop_named p, prop_named q)
  prop_named (g.impl_suff p) = prop_named p
  prop_named (g.prop_always a h) = prop_named h
  prop_named (g.prop_impl p) = prop_named p
