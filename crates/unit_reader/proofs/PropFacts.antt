-- What goes on with a property, and with which symbols it begins and ends.
use Rattle.std.proofs.Common.{◌≡◌, ℕ, ◌+◌, ◌-◌, ◌<◌, ◌≤◌, Bool, true, false, ◌||◌, IsTrue, Option, List, length, refl}
use Rattle.std.proofs.Common.{sym, ap, subst, ◌∙◌, arith}
use Rattle.psl_grammar.specs.declared.symbols.Symbol.{Symbol}
use Rattle.psl_grammar.specs.declared.symbols.Symbol.TheVariants as symbol
use Rattle.psl_grammar.specs.Symbols.{symbol_at, At, after_level, begins_sequence, sere_level, is_pick, is_literal}
use Rattle.psl_grammar.specs.Symbols.{is_prefix}
use Rattle.psl_grammar.specs.RawProp.{RawProp}
use Rattle.psl_grammar.specs.RawExpr.{RawExpr}
use Rattle.psl_grammar.specs.RawSere.{RawSere, repeat}
use Rattle.psl_grammar.specs.ExprGrammar.{IsExpr, whole, bit, part, literally, parens, prefixed, joined, chosen, looser}
use Rattle.psl_grammar.specs.SereGrammar.{IsTimes, IsPick, IsTimed, IsSere, IsSeq, IsCounts, single, range}
use Rattle.psl_grammar.specs.SereGrammar as seres
use Rattle.psl_grammar.specs.PropGrammar.{IsCount, IsRange, paren, IsNextForm, Phrase, IsProp}
use Rattle.psl_grammar.specs.PropGrammar as g
use Rattle.unit_reader.specs.inner.Steps.{is, is_at}
use Rattle.unit_reader.specs.inner.SereReaders.{is_times}
use Rattle.unit_reader.specs.inner.PropReaders.{is_rep}
use Rattle.unit_reader.proofs.SymbolTests.{there, is_other}
use Rattle.unit_reader.proofs.ExprFacts as expr
use Rattle.unit_reader.proofs.SereFacts.{ends_times, ends_pick, timed_bounds, sere_bounds, tight_begins}

-- How tightly a symbol goes on with a phrase: up to 10 as with an expression, 11 what follows a bool or a sequence, 12
-- `abort`, 14 `until`, 15 a suffix, 16 `->` and `<->`, and 18 for what doesn't go on.
abbrev pub follow : Symbol → ℕ
follow symbol.OpenBracket = 0
follow symbol.Sum = 1
follow symbol.Shift = 2
follow symbol.Order = 3
follow symbol.Equality = 4
follow symbol.And = 5
follow symbol.Caret = 6
follow symbol.Or = 7
follow symbol.AndAnd = 8
follow symbol.OrOr = 9
follow symbol.Question = 10
follow symbol.RepeatOpen = 11
follow symbol.RepeatPlus = 11
follow symbol.GotoOpen = 11
follow symbol.EqualRepeatOpen = 11
follow symbol.Exclamation = 11
follow symbol.Abort = 12
follow symbol.Until = 14
follow symbol.Suffix = 15
follow symbol.Arrow = 16
follow symbol.DoubleArrow = 16
follow _ = 18

pub follow_after : (s : Symbol) (k : ℕ) → k < 11 → k < follow s → k < after_level s
follow_after symbol.OpenBracket k lt h = h
follow_after symbol.Sum k lt h = h
follow_after symbol.Shift k lt h = h
follow_after symbol.Order k lt h = h
follow_after symbol.Equality k lt h = h
follow_after symbol.And k lt h = h
follow_after symbol.Caret k lt h = h
follow_after symbol.Or k lt h = h
follow_after symbol.AndAnd k lt h = h
follow_after symbol.OrOr k lt h = h
follow_after symbol.Question k lt h = h
follow_after _ k lt h = omega arith

-- a symbol that doesn't go on as a repetition or `!`
pub follow_sere : (s : Symbol) → (follow s ≡ 11 → ⊥) → 0 < sere_level s
follow_sere symbol.RepeatOpen h = absurd (h refl)
follow_sere symbol.RepeatPlus h = absurd (h refl)
follow_sere symbol.GotoOpen h = absurd (h refl)
follow_sere symbol.EqualRepeatOpen h = absurd (h refl)
follow_sere _ h = omega arith

pub level_not : (s t : Symbol) (n : ℕ) → follow t ≡ n → (follow s ≡ n → ⊥) → is s t ≡ false
level_not s t n e h = is_other s t (λ same. h (ap follow same ∙ e))

both_false : (a b : Bool) → a ≡ false → b ≡ false → a || b ≡ false
both_false true b h k = h
both_false false b h k = k

pub no_rep : (s : Symbol) → (follow s ≡ 11 → ⊥) → is_rep s ≡ false
no_rep s h = both_false (is_times s) (is_pick s) (ends_times s (follow_sere s h)) (ends_pick s (follow_sere s h))

-- words that a phrase of properties begins with
abbrev pub opens_word : Symbol → Bool
opens_word symbol.EventuallyStrong = true
opens_word symbol.Next = true
opens_word symbol.NextRange = true
opens_word symbol.Event = true
opens_word symbol.EventRange = true
opens_word symbol.Always = true
opens_word symbol.OpenBracket = true
opens_word _ = false

pub word_other : (s t : Symbol) → opens_word t ≡ true → opens_word s ≡ false → is s t ≡ false
word_other s t h k = is_other s t (λ same. let z = sym k ∙ ap opens_word same ∙ h in cc)

pub no_next : (s : Symbol) → opens_word s ≡ false → (is s symbol.Next || is s symbol.NextRange) ||
    (is s symbol.Event || is s symbol.EventRange) ≡ false
no_next s h =
    both_false (is s symbol.Next || is s symbol.NextRange) (is s symbol.Event || is s symbol.EventRange)
    (both_false (is s symbol.Next) (is s symbol.NextRange) (word_other s symbol.Next refl h)
    (word_other s symbol.NextRange refl h))
    (both_false (is s symbol.Event) (is s symbol.EventRange) (word_other s symbol.Event refl h)
    (word_other s symbol.EventRange refl h))

module _ (symbols : List Symbol) where
  literal_word : (s : Symbol) → IsTrue (is_literal s) → opens_word s ≡ false
  literal_word symbol.Number h = refl
  literal_word symbol.Literal h = refl
  literal_word _ h = absurd (cc)

  prefix_word : (s : Symbol) → IsTrue (is_prefix s) → opens_word s ≡ false
  prefix_word symbol.Exclamation h = refl
  prefix_word symbol.Tilde h = refl
  prefix_word symbol.And h = refl
  prefix_word symbol.Or h = refl
  prefix_word symbol.Caret h = refl
  prefix_word _ h = absurd (cc)

  sequence_word : (s : Symbol) → begins_sequence s ≡ true → opens_word s ≡ false
  sequence_word symbol.OpenBrace h = refl
  sequence_word symbol.RepeatOpen h = refl
  sequence_word symbol.RepeatPlus h = refl
  sequence_word symbol.SequenceName h = refl
  sequence_word _ h = absurd (cc)

  pub expr_starts : {room level : ℕ} {e : RawExpr} {i j : ℕ} → IsExpr symbols room level e i j
      → opens_word (symbol_at symbols i) ≡ false
  expr_starts (whole h) = rw h refl
  expr_starts (bit h a b c) = rw h refl
  expr_starts (part h a b c d e) = rw h refl
  expr_starts {i = i} (literally h) = literal_word (symbol_at symbols i) h
  expr_starts (parens h p q) = rw h refl
  expr_starts {i = i} (prefixed h p) = prefix_word (symbol_at symbols i) h
  expr_starts (joined lt l o r) = expr_starts l
  expr_starts (chosen p o v w x) = expr_starts p
  expr_starts (looser p) = expr_starts p

  pub timed_starts : {room : ℕ} {braced : Bool} {s : RawSere} {i j : ℕ} → IsTimed symbols room braced s i j
      → opens_word (symbol_at symbols i) ≡ false
  timed_starts (seres.once p) = expr_starts p.0
  timed_starts (seres.picked p c) = expr_starts p.0
  timed_starts (seres.IsTimed.again p c) = timed_starts p

  pub tight_starts : {room : ℕ} {s : RawSere} {i j : ℕ} → IsSere symbols room 0 s i j → opens_word (symbol_at symbols i)
      ≡ false
  tight_starts {i = i} p = sequence_word (symbol_at symbols i) (tight_begins symbols p)

  -- what a phrase of a kind begins with
  abbrev Starts : Phrase → Symbol → Type 0
  Starts g.primary s = opens_word s ≡ false
  Starts g.factor s = opens_word s ≡ false
  Starts g.both s = opens_word s ≡ false
  Starts g.either s = opens_word s ≡ false
  Starts g.hdl s = opens_word s ≡ false
  Starts g.low s = opens_word s ≡ false
  Starts g.abt s = opens_word s ≡ false
  Starts g.occ s = is s symbol.Always ≡ false
  Starts g.untl s = is s symbol.Always ≡ false
  Starts g.suff s = is s symbol.Always ≡ false
  Starts g.impl s = is s symbol.Always ≡ false
  Starts g.prop s = Unit {0}

  pub apart : (i : ℕ) (s t : Symbol) → At symbols i s → (s ≡ t → ⊥) → is (symbol_at symbols i) t ≡ false
  apart i s t a not = is_other (symbol_at symbols i) t (λ e. not (sym a ∙ e))

  form_word : {room : ℕ} {on : Option RawExpr} {low high : Option ℕ} {i j : ℕ} → IsNextForm symbols room on low high i j
      → is (symbol_at symbols i) symbol.Always ≡ false
  form_word (g.IsNextForm.next {i = i} a) = apart i symbol.Next symbol.Always a (λ e. cc)
  form_word (g.next_count {i = i} a c) = apart i symbol.Next symbol.Always a (λ e. cc)
  form_word (g.next_range {i = i} a c) = apart i symbol.NextRange symbol.Always a (λ e. cc)
  form_word (g.event {i = i} a c) = apart i symbol.Event symbol.Always a (λ e. cc)
  form_word (g.event_count {i = i} a c d) = apart i symbol.Event symbol.Always a (λ e. cc)
  form_word (g.event_range {i = i} a c d) = apart i symbol.EventRange symbol.Always a (λ e. cc)

  pub seq_starts : {room : ℕ} {s : RawSere} {i j : ℕ} → IsSeq symbols room s i j → opens_word (symbol_at symbols i)
      ≡ false
  seq_starts (seres.tight p) = tight_starts p
  seq_starts (seres.IsSeq.timed p) = timed_starts p

  pub starts : {room : ℕ} {phrase : Phrase} {p : RawProp} {i j : ℕ} → IsProp symbols room phrase p i j
      → Starts phrase (symbol_at symbols i)
  starts (g.parens a p nb c) = rw a refl
  starts (g.named a) = rw a refl
  starts (g.weak p) = tight_starts p
  starts (g.strong p a) = tight_starts p
  starts (g.negated a p) = rw a refl
  starts (g.factor_bool p) = expr_starts p
  starts (g.factor_primary p) = starts p
  starts (g.both_bool p) = expr_starts p
  starts (g.both_factor p) = starts p
  starts (g.both_and p a q nb) = starts p
  starts (g.either_bool p) = expr_starts p
  starts (g.either_both p) = starts p
  starts (g.either_or p a q nb) = starts p
  starts (g.hdl_bool p) = expr_starts p
  starts (g.hdl_either p) = starts p
  starts (g.low_timed p) = timed_starts p
  starts (g.low_strong p a) = timed_starts p
  starts (g.low_hdl p) = starts p
  starts (g.abt_abort p a q) = starts p
  starts (g.abt_low p) = starts p
  starts (g.occ_eventually {i = i} a p) = apart i symbol.EventuallyStrong symbol.Always a (λ e. cc)
  starts (g.occ_next f p) = form_word f
  starts (g.occ_abt {i = i} p) = word_other (symbol_at symbols i) symbol.Always refl (starts p)
  starts (g.untl_until p a q) = starts p
  starts (g.untl_occ p) = starts p
  starts (g.suff_suffix {i = i} q a p) = word_other (symbol_at symbols i) symbol.Always refl (seq_starts q)
  starts (g.suff_untl p) = starts p
  starts (g.impl_implies p a q) = starts p
  starts (g.impl_iff p a q) = starts p
  starts (g.impl_suff p) = starts p
  starts (g.prop_always a p) = tt
  starts (g.prop_impl p) = tt

  form_bracket : {room : ℕ} {on : Option RawExpr} {low high : Option ℕ} {i j : ℕ} → IsNextForm symbols room on low high
      i j
      → is (symbol_at symbols i) symbol.OpenBracket ≡ false
  form_bracket (g.IsNextForm.next {i = i} a) = apart i symbol.Next symbol.OpenBracket a (λ e. cc)
  form_bracket (g.next_count {i = i} a c) = apart i symbol.Next symbol.OpenBracket a (λ e. cc)
  form_bracket (g.next_range {i = i} a c) = apart i symbol.NextRange symbol.OpenBracket a (λ e. cc)
  form_bracket (g.event {i = i} a c) = apart i symbol.Event symbol.OpenBracket a (λ e. cc)
  form_bracket (g.event_count {i = i} a c d) = apart i symbol.Event symbol.OpenBracket a (λ e. cc)
  form_bracket (g.event_range {i = i} a c d) = apart i symbol.EventRange symbol.OpenBracket a (λ e. cc)

  pub no_bracket : {room : ℕ} {p : RawProp} {i j : ℕ} → IsProp symbols room g.occ p i j
      → is (symbol_at symbols i) symbol.OpenBracket ≡ false
  no_bracket (g.occ_eventually {i = i} a p) = apart i symbol.EventuallyStrong symbol.OpenBracket a (λ e. cc)
  no_bracket (g.occ_next f p) = form_bracket f
  no_bracket (g.occ_abt {i = i} p) = word_other (symbol_at symbols i) symbol.OpenBracket refl (starts p)

  -- ---- ends

  pub count_within : (i : ℕ) → IsCount symbols i → i + 3 ≤ length symbols
  count_within i c = let l = there symbols (i + 2) symbol.CloseBracket c.closes (λ p. cc) in omega arith

  pub range_within : (i : ℕ) → IsRange symbols i → i + 5 ≤ length symbols
  range_within i c = let l = there symbols (i + 4) symbol.CloseBracket c.closes (λ p. cc) in omega arith

  pub prop_bounds : {room : ℕ} {phrase : Phrase} {p : RawProp} {i j : ℕ} → IsProp symbols room phrase p i j
      → j ≤ length symbols
  prop_bounds (g.parens {j = j} a p nb c) = let l = there symbols j symbol.CloseParenthesis c (λ p. cc) in omega arith
  prop_bounds (g.named {i = i} a) = let l = there symbols i symbol.PropertyName a (λ p. cc) in omega arith
  prop_bounds (g.weak p) = (sere_bounds symbols p).1
  prop_bounds (g.strong {j = j} p a) = let l = there symbols j symbol.Exclamation a (λ p. cc) in omega arith
  prop_bounds (g.negated a p) = prop_bounds p
  prop_bounds (g.factor_bool {e = e} {i = i} {j = j} p) = (expr.bounds symbols 7 e i j p).1
  prop_bounds (g.factor_primary p) = prop_bounds p
  prop_bounds (g.both_bool {e = e} {i = i} {j = j} p) = (expr.bounds symbols 8 e i j p).1
  prop_bounds (g.both_factor p) = prop_bounds p
  prop_bounds (g.both_and p a q nb) = prop_bounds q
  prop_bounds (g.either_bool {e = e} {i = i} {j = j} p) = (expr.bounds symbols 9 e i j p).1
  prop_bounds (g.either_both p) = prop_bounds p
  prop_bounds (g.either_or p a q nb) = prop_bounds q
  prop_bounds (g.hdl_bool {e = e} {i = i} {j = j} p) = (expr.bounds symbols 10 e i j p).1
  prop_bounds (g.hdl_either p) = prop_bounds p
  prop_bounds (g.low_timed p) = (timed_bounds symbols p).1
  prop_bounds (g.low_strong {j = j} p a) = let l = there symbols j symbol.Exclamation a (λ p. cc) in omega arith
  prop_bounds (g.low_hdl p) = prop_bounds p
  prop_bounds (g.abt_abort {e = e} {m = m} {j = j} p a q) = (expr.bounds symbols 10 e (m + 1) j q.0).1
  prop_bounds (g.abt_low p) = prop_bounds p
  prop_bounds (g.occ_eventually a p) = prop_bounds p
  prop_bounds (g.occ_next f p) = prop_bounds p
  prop_bounds (g.occ_abt p) = prop_bounds p
  prop_bounds (g.untl_until p a q) = prop_bounds q
  prop_bounds (g.untl_occ p) = prop_bounds p
  prop_bounds (g.suff_suffix q a p) = prop_bounds p
  prop_bounds (g.suff_untl p) = prop_bounds p
  prop_bounds (g.impl_implies p a q) = prop_bounds q
  prop_bounds (g.impl_iff p a q) = prop_bounds q
  prop_bounds (g.impl_suff p) = prop_bounds p
  prop_bounds (g.prop_always a p) = prop_bounds p
  prop_bounds (g.prop_impl p) = prop_bounds p

  form_within : {room : ℕ} {on : Option RawExpr} {low high : Option ℕ} {i j : ℕ} → IsNextForm symbols room on low high i
      j → i < j
  form_within (g.IsNextForm.next a) = omega arith
  form_within (g.next_count a c) = omega arith
  form_within (g.next_range a c) = omega arith
  form_within (g.event {e = e} {i = i} {m = m} a (paren {j = j} b p c)) = let l = expr.bounds symbols 10 e (i + 1 + 1) j
      p in omega arith
  form_within (g.event_count {e = e} {i = i} {m = m} a (paren {j = j} b p c) d) = let l = expr.bounds symbols 10 e
      (i + 1 + 1) j p in omega arith
  form_within (g.event_range {e = e} {i = i} {m = m} a (paren {j = j} b p c) d) = let l = expr.bounds symbols 10 e
      (i + 1 + 1) j p in omega arith

  pub prop_some : {room : ℕ} {phrase : Phrase} {p : RawProp} {i j : ℕ} → IsProp symbols room phrase p i j → i < j
  prop_some (g.parens a p nb c) = let l = prop_some p in omega arith
  prop_some (g.named a) = omega arith
  prop_some (g.weak p) = (sere_bounds symbols p).0
  prop_some (g.strong p a) = let l = sere_bounds symbols p in omega arith
  prop_some (g.negated a p) = let l = prop_some p in omega arith
  prop_some (g.factor_bool {e = e} {i = i} {j = j} p) = (expr.bounds symbols 7 e i j p).0
  prop_some (g.factor_primary p) = prop_some p
  prop_some (g.both_bool {e = e} {i = i} {j = j} p) = (expr.bounds symbols 8 e i j p).0
  prop_some (g.both_factor p) = prop_some p
  prop_some (g.both_and p a q nb) = let l = prop_some p in let r = prop_some q in omega arith
  prop_some (g.either_bool {e = e} {i = i} {j = j} p) = (expr.bounds symbols 9 e i j p).0
  prop_some (g.either_both p) = prop_some p
  prop_some (g.either_or p a q nb) = let l = prop_some p in let r = prop_some q in omega arith
  prop_some (g.hdl_bool {e = e} {i = i} {j = j} p) = (expr.bounds symbols 10 e i j p).0
  prop_some (g.hdl_either p) = prop_some p
  prop_some (g.low_timed p) = (timed_bounds symbols p).0
  prop_some (g.low_strong p a) = let l = timed_bounds symbols p in omega arith
  prop_some (g.low_hdl p) = prop_some p
  prop_some (g.abt_abort {e = e} {m = m} {j = j} p a q) = let l = prop_some p in let r = expr.bounds symbols 10 e
      (m + 1) j q.0 in omega arith
  prop_some (g.abt_low p) = prop_some p
  prop_some (g.occ_eventually a p) = let l = prop_some p in omega arith
  prop_some (g.occ_next f p) = let l = form_within f in let r = prop_some p in omega arith
  prop_some (g.occ_abt p) = prop_some p
  prop_some (g.untl_until p a q) = let l = prop_some p in let r = prop_some q in omega arith
  prop_some (g.untl_occ p) = prop_some p
  prop_some (g.suff_suffix q a p) = let r = prop_some p in let l = seq_some q in omega arith
    where
      seq_some : {room : ℕ} {s : RawSere} {i j : ℕ} → IsSeq symbols room s i j → i < j
      seq_some (seres.tight p) = (sere_bounds symbols p).0
      seq_some (seres.IsSeq.timed p) = (timed_bounds symbols p).0
  prop_some (g.suff_untl p) = prop_some p
  prop_some (g.impl_implies p a q) = let l = prop_some p in let r = prop_some q in omega arith
  prop_some (g.impl_iff p a q) = let l = prop_some p in let r = prop_some q in omega arith
  prop_some (g.impl_suff p) = prop_some p
  prop_some (g.prop_always a p) = let r = prop_some p in omega arith
  prop_some (g.prop_impl p) = prop_some p

  -- a sequence doesn't end in a parenthesis
  at_end : (j m : ℕ) (s : Symbol) → At symbols m s → j ≡ m + 1 → (s ≡ symbol.CloseParenthesis → ⊥)
      → is_at symbols (j - 1) symbol.CloseParenthesis ≡ false
  at_end j m s a same not =
      let here : m ≡ j - 1 = omega (arith, same) in
      subst (λ (n : ℕ). is_at symbols n symbol.CloseParenthesis ≡ false) here
      (is_other (symbol_at symbols m) symbol.CloseParenthesis (λ e. not (sym a ∙ e)))

  counts_end : {high : Option ℕ} {i j : ℕ} → IsCounts symbols high i j → is_at symbols (j - 1) symbol.CloseParenthesis
      ≡ false
  counts_end (single {i = i} a b) = at_end (i + 2) (i + 1) symbol.CloseBracket b (omega arith) (λ e. cc)
  counts_end (range {i = i} a b c d) = at_end (i + 4) (i + 3) symbol.CloseBracket d (omega arith) (λ e. cc)

  times_end : {low high : Option ℕ} {i j : ℕ} → IsTimes symbols low high i j
      → is_at symbols (j - 1) symbol.CloseParenthesis ≡ false
  times_end (seres.any {i = i} a b) = at_end (i + 2) (i + 1) symbol.CloseBracket b (omega arith) (λ e. cc)
  times_end (seres.IsTimes.counted a c) = counts_end c
  times_end (seres.some {i = i} a) = at_end (i + 1) i symbol.RepeatPlus a refl (λ e. cc)

  pick_end : {low high : Option ℕ} {i j : ℕ} → IsPick symbols low high i j
      → is_at symbols (j - 1) symbol.CloseParenthesis ≡ false
  pick_end (seres.first {i = i} a b) = at_end (i + 2) (i + 1) symbol.CloseBracket b (omega arith) (λ e. cc)
  pick_end (seres.IsPick.counted a c) = counts_end c

  tight_end : {room level : ℕ} {s : RawSere} {i j : ℕ} → IsSere symbols room level s i j → level ≡ 0
      → is_at symbols (j - 1) symbol.CloseParenthesis ≡ false
  tight_end (seres.braces {j = j} a p z) none = at_end (j + 1) j symbol.CloseBrace z refl (λ e. cc)
  tight_end (seres.name {i = i} a) none = at_end (i + 1) i symbol.SequenceName a refl (λ e. cc)
  tight_end (seres.alone c) none = times_end c
  tight_end (seres.IsSere.again p c) none = times_end c
  tight_end (seres.timed p) none = absurd (omega (arith, none))
  tight_end (seres.joins lt l o r) none = absurd (omega (arith, none))
  tight_end (seres.looser p) none = absurd (omega (arith, none))

  repeat_end : {room : ℕ} {braced : Bool} {s : RawSere} {mark : ℕ} {low high : Option ℕ} {i j : ℕ}
      → IsTimed symbols room braced (repeat s mark low high) i j → is_at symbols (j - 1) symbol.CloseParenthesis ≡ false
  repeat_end (seres.picked p c) = pick_end c
  repeat_end (seres.IsTimed.again p c) = times_end c

  pub seq_end : {room : ℕ} {s : RawSere} {i j : ℕ} → IsSeq symbols room s i j
      → is_at symbols (j - 1) symbol.CloseParenthesis ≡ false
  seq_end (seres.tight p) = tight_end p refl
  seq_end (seres.IsSeq.timed p) = repeat_end p
