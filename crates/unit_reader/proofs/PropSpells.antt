-- A property that nothing goes on with is what is read.
use Rattle.std.proofs.Common.{◌≡◌, ℕ, suc, ◌+◌, ◌-◌, ◌<◌, ◌≤◌, Bool, true, false, ◌||◌, Option, Some, None, List}
use Rattle.std.proofs.Common.{length, refl, sym, ap, subst, ◌∙◌, arith, lit<, lit≤}
use Rattle.psl_grammar.specs.declared.symbols.Symbol.{Symbol}
use Rattle.psl_grammar.specs.declared.symbols.Symbol.TheVariants as symbol
use Rattle.psl_grammar.specs.Symbols.{symbol_at, At, begins_sequence, sere_level, is_pick}
use Rattle.psl_grammar.specs.RawExpr.{RawExpr}
use Rattle.psl_grammar.specs.RawSere.{RawSere}
use Rattle.psl_grammar.specs.RawSere as sere
use Rattle.psl_grammar.specs.RawProp.{RawProp, bool, named, seq, prefix, next, binary, suffix}
use Rattle.psl_grammar.specs.SereGrammar.{IsSere, IsTimed, IsSeq}
use Rattle.psl_grammar.specs.SereGrammar as seres
use Rattle.psl_grammar.specs.PropGrammar.{IsCount, IsRange, IsParen, paren, IsNextForm, Phrase, is_bool, are_bool}
use Rattle.psl_grammar.specs.PropGrammar.{IsProp}
use Rattle.psl_grammar.specs.PropGrammar as g
use Rattle.unit_reader.specs.inner.Steps.{◌>>=◌, need, is, is_at, Read, loop}
use Rattle.unit_reader.specs.inner.ExprReaders.{bool_in}
use Rattle.unit_reader.specs.inner.SereReaders.{is_times, times_go, times_from, after_bool, timed_in, tight_in}
use Rattle.unit_reader.specs.inner.FormReaders.{Form, is_next, count_end, range_end, on_in, next_at, next_range_at}
use Rattle.unit_reader.specs.inner.FormReaders.{event_count_at, event_range_at, form_in}
use Rattle.unit_reader.specs.inner.PropReaders.{negation, combination, is_rep, prefixed as prefix_read}
use Rattle.unit_reader.specs.inner.PropReaders.{joined as joined_read, marked}
use Rattle.unit_reader.specs.inner.PropReaders.{times_of}
use Rattle.unit_reader.specs.inner.PropReaders.{paren_prop_with, atom_with, factor_with}
use Rattle.unit_reader.specs.inner.PropReaders.{eventually_with, next_with, occ_with, until_with}
use Rattle.unit_reader.specs.inner.PropReaders.{untl_with, suffix_of, suffix_with, suff_with, implied_with, impl_with}
use Rattle.unit_reader.specs.inner.PropReaders.{always_with, prop_with, phrase_with, prop_at}
use Rattle.unit_reader.proofs.SymbolTests.{is_other, bound}
use Rattle.unit_reader.proofs.ExprSpells.{this_way, that_way, has, then, at}
use Rattle.unit_reader.proofs.ExprSpells.{choice_spelled, bool_spelled, paren_read}
use Rattle.unit_reader.proofs.ExprSpells.{inner_choice, close_ends}
use Rattle.unit_reader.proofs.SereReads.{bool_read}
use Rattle.unit_reader.proofs.SereSpells.{tight_spelled, timed_spelled}
use Rattle.unit_reader.proofs.SereFacts.{tight_begins, timed_bounds, sere_bounds}
use Rattle.unit_reader.proofs.ExprFacts.{bounds}
use Rattle.unit_reader.proofs.PropFacts.{follow, follow_sere, level_not, no_rep}
use Rattle.unit_reader.proofs.PropFacts.{apart, seq_starts, starts, no_bracket, prop_bounds}
use Rattle.unit_reader.proofs.PropFacts.{prop_some, seq_end}
use Rattle.unit_reader.proofs.PropPlain.{AbtWay, AtomFact, BothWay, EitherWay, HdlWay, LowWay, abt_begins, abt_stops}
use Rattle.unit_reader.proofs.PropPlain.{abt_turns, atom_not, atoms, both_begins, both_bool, both_stops, both_turns}
use Rattle.unit_reader.proofs.PropPlain.{either_begins, either_bool, either_stops, either_turns, factor_bool, factor_of}
use Rattle.unit_reader.proofs.PropPlain.{follow_ends, hdl_bool, hdl_of, impl_plain, inner, low_of, not_eleven, not_mark}
use Rattle.unit_reader.proofs.PropPlain.{occ_plain, prop_plain, suff_plain, tighter_plain, untl_plain}

left_false : (a b : Bool) → a || b ≡ false → a ≡ false
left_false true b h = h
left_false false b h = refl

right_false : (a b : Bool) → a || b ≡ false → b ≡ false
right_false true b h = absurd (cc)
right_false false b h = h

module _ (symbols : List Symbol) where
  -- ---- forms of next

  count_spelled : (i : ℕ) → IsCount symbols i → count_end symbols i ≡ Some (i + 3)
  unfolding count_end
  count_spelled i c = has _ _ _ (at symbols i symbol.OpenBracket c.opens)
      (has _ _ _ (at symbols (i + 1) symbol.Number c.number)
      (has _ _ _ (at symbols (i + 2) symbol.CloseBracket c.closes) refl))

  pub range_spelled : (i : ℕ) → IsRange symbols i → range_end symbols i ≡ Some (i + 5)
  unfolding range_end
  range_spelled i c =
      has _ _ _ (at symbols i symbol.OpenBracket c.opens) (has _ _ _ (at symbols (i + 1) symbol.Number c.low)
      (has _ _ _ (at symbols (i + 2) symbol.Colon c.colon) (has _ _ _ (at symbols (i + 3) symbol.Number c.high)
      (has _ _ _ (at symbols (i + 4) symbol.CloseBracket c.closes) refl))))

  on_spelled : {room : ℕ} {e : RawExpr} {i j : ℕ} → IsParen symbols room e i j → on_in symbols room i ≡ Some (e, j)
  unfolding on_in
  on_spelled (paren {room = r} {e = e} {i = i} {j = j} a p c) =
      has _ _ _ (at symbols i symbol.OpenParenthesis a) (paren_read symbols r i j e
      (inner_choice symbols r false (i + 1) _ (choice_spelled symbols false p (close_ends symbols j c))) c)

  next_count_spelled : (i : ℕ) → IsCount symbols (i + 1) → next_at symbols i ≡ Some ((None, Some (i + 2), None), i + 4)
  unfolding next_at
  next_count_spelled i c =
      this_way _ _ _ _ (at symbols (i + 1) symbol.OpenBracket c.opens)
      (then (count_end symbols (i + 1)) (λ j. Some ((None, Some (i + 2), None), j)) (i + 1 + 3) _
      (count_spelled (i + 1) c)
      (let same : i + 1 + 3 ≡ i + 4 = omega arith in ap (λ (j : ℕ). Some ((None, Some (i + 2), None), j)) same))

  next_range_spelled : (i : ℕ) → IsRange symbols (i + 1) → next_range_at symbols i
      ≡ Some ((None, Some (i + 2), Some (i + 4)), i + 6)
  unfolding next_range_at
  next_range_spelled i c =
      then (range_end symbols (i + 1)) (λ j. Some ((None, Some (i + 2), Some (i + 4)), j)) (i + 1 + 5) _
      (range_spelled (i + 1) c)
      (let same : i + 1 + 5 ≡ i + 6 = omega arith in ap (λ (j : ℕ). Some ((None, Some (i + 2), Some (i + 4)), j)) same)

  next_alone : (i : ℕ) → is_at symbols (i + 1) symbol.OpenBracket ≡ false → next_at symbols i
      ≡ Some ((None, None, None), i + 1)
  unfolding next_at
  next_alone i h = that_way _ _ _ _ h refl

  event_alone : (e : RawExpr) (m : ℕ) → is_at symbols m symbol.OpenBracket ≡ false → event_count_at symbols (e, m)
      ≡ Some ((Some e, None, None), m)
  unfolding event_count_at
  event_alone e m h = that_way _ _ _ _ h refl

  event_counted : (e : RawExpr) (m : ℕ) → IsCount symbols m → event_count_at symbols (e, m)
      ≡ Some ((Some e, Some (m + 1), None), m + 3)
  unfolding event_count_at
  event_counted e m c =
      this_way _ _ _ _ (at symbols m symbol.OpenBracket c.opens)
      (then (count_end symbols m) (λ j. Some ((Some e, Some (m + 1), None), j)) (m + 3) _ (count_spelled m c) refl)

  event_ranged : (e : RawExpr) (m : ℕ) → IsRange symbols m → event_range_at symbols (e, m)
      ≡ Some ((Some e, Some (m + 1), Some (m + 3)), m + 5)
  unfolding event_range_at
  event_ranged e m c = then (range_end symbols m) (λ j. Some ((Some e, Some (m + 1), Some (m + 3)), j)) (m + 5) _
      (range_spelled m c) refl

  form_next : (room i : ℕ) (y : Read Form) → At symbols i symbol.Next → next_at symbols i ≡ y → form_in symbols room i
      ≡ y
  unfolding form_in
  form_next room i y a e = this_way _ _ _ y (at symbols i symbol.Next a) e

  form_next_range : (room i : ℕ) (y : Read Form) → At symbols i symbol.NextRange → next_range_at symbols i ≡ y
      → form_in symbols room i ≡ y
  unfolding form_in
  form_next_range room i y a e =
      that_way _ _ _ y (apart symbols i symbol.NextRange symbol.Next a (λ e. cc))
      (this_way _ _ _ y (at symbols i symbol.NextRange a) e)

  form_event : {on : RawExpr} (room i m : ℕ) (y : Read Form) → At symbols i symbol.Event
      → IsParen symbols room on (i + 1) m
      → event_count_at symbols (on, m) ≡ y → form_in symbols room i ≡ y
  unfolding form_in
  form_event {on = on} room i m y a p e =
      that_way _ _ _ y (apart symbols i symbol.Event symbol.Next a (λ e. cc))
      (that_way _ _ _ y (apart symbols i symbol.Event symbol.NextRange a (λ e. cc))
      (this_way _ _ _ y (at symbols i symbol.Event a) (then (on_in symbols room (i + 1)) (event_count_at symbols)
      (on, m) y (on_spelled p) e)))

  form_event_range : {on : RawExpr} (room i m : ℕ) (y : Read Form) → At symbols i symbol.EventRange
      → IsParen symbols room on (i + 1) m
      → event_range_at symbols (on, m) ≡ y → form_in symbols room i ≡ y
  unfolding form_in
  form_event_range {on = on} room i m y a p e =
      that_way _ _ _ y (apart symbols i symbol.EventRange symbol.Next a (λ e. cc))
      (that_way _ _ _ y (apart symbols i symbol.EventRange symbol.NextRange a (λ e. cc))
      (that_way _ _ _ y (apart symbols i symbol.EventRange symbol.Event a (λ e. cc))
      (has _ _ y (at symbols i symbol.EventRange a) (then (on_in symbols room (i + 1)) (event_range_at symbols) (on, m)
      y (on_spelled p) e))))

  form_spelled : {room : ℕ} {on : Option RawExpr} {low high : Option ℕ} {i j : ℕ} → IsNextForm symbols room on low high
      i j
      → is_at symbols j symbol.OpenBracket ≡ false → form_in symbols room i ≡ Some ((on, low, high), j)
  form_spelled {room = room} (g.IsNextForm.next {i = i} a) h = form_next room i _ a (next_alone i h)
  form_spelled {room = room} (g.next_count {i = i} a c) h = form_next room i _ a (next_count_spelled i c)
  form_spelled {room = room} (g.next_range {i = i} a c) h = form_next_range room i _ a (next_range_spelled i c)
  form_spelled {room = room} (g.event {e = e} {i = i} {m = m} a p) h = form_event room i m _ a p (event_alone e m h)
  form_spelled {room = room} (g.event_count {e = e} {i = i} {m = m} a p c) h = form_event room i m _ a p
      (event_counted e m c)
  form_spelled {room = room} (g.event_range {e = e} {i = i} {m = m} a p c) h = form_event_range room i m _ a p
      (event_ranged e m c)

  form_is_next : {room : ℕ} {on : Option RawExpr} {low high : Option ℕ} {i j : ℕ} → IsNextForm symbols room on low high
      i j
      → is_next (symbol_at symbols i) ≡ true
  form_is_next (g.IsNextForm.next a) = rw a refl
  form_is_next (g.next_count a c) = rw a refl
  form_is_next (g.next_range a c) = rw a refl
  form_is_next (g.event a p) = rw a refl
  form_is_next (g.event_count a p c) = rw a refl
  form_is_next (g.event_range a p c) = rw a refl

  form_not_eventually : {room : ℕ} {on : Option RawExpr} {low high : Option ℕ} {i j : ℕ}
      → IsNextForm symbols room on low high i j
      → is_at symbols i symbol.EventuallyStrong ≡ false
  form_not_eventually (g.IsNextForm.next {i = i} a) = apart symbols i symbol.Next symbol.EventuallyStrong a (λ e. cc)
  form_not_eventually (g.next_count {i = i} a c) = apart symbols i symbol.Next symbol.EventuallyStrong a (λ e. cc)
  form_not_eventually (g.next_range {i = i} a c) = apart symbols i symbol.NextRange symbol.EventuallyStrong a (λ e. cc)
  form_not_eventually (g.event {i = i} a p) = apart symbols i symbol.Event symbol.EventuallyStrong a (λ e. cc)
  form_not_eventually (g.event_count {i = i} a p c) = apart symbols i symbol.Event symbol.EventuallyStrong a (λ e. cc)
  form_not_eventually (g.event_range {i = i} a p c) = apart symbols i symbol.EventRange symbol.EventuallyStrong a
      (λ e. cc)

  -- ---- the phrases of properties

  primary_plain : {room : ℕ} {p : RawProp} {i j : ℕ} → IsProp symbols room g.primary p i j → is_bool p ≡ false
  primary_plain (g.parens a p nb c) = nb
  primary_plain (g.named a) = refl
  primary_plain (g.weak p) = refl
  primary_plain (g.strong p a) = refl
  primary_plain (g.negated a p) = refl

  atom_plain : (room i : ℕ) (p : RawProp) (j : ℕ) → At symbols i symbol.OpenParenthesis
      → prop_at symbols room g.prop (i + 1) ≡ Some (p, j)
      → At symbols j symbol.CloseParenthesis → atom_with symbols (inner symbols room) room i ≡ Some (p, j + 1)
  unfolding atom_with paren_prop_with
  atom_plain room i p j a e c =
      that_way _ _ _ _ (apart symbols i symbol.OpenParenthesis symbol.Exclamation a (λ e. cc))
      (this_way _ _ _ _ (at symbols i symbol.OpenParenthesis a)
      (then (prop_at symbols room g.prop (i + 1)) (λ p. need (is_at symbols p.1 symbol.CloseParenthesis)
      (Some (p.0, p.1 + 1))) (p, j) _ e (has _ _ _ (at symbols j symbol.CloseParenthesis c) refl)))

  atom_named : (room i : ℕ) → At symbols i symbol.PropertyName → atom_with symbols (inner symbols room) room i
      ≡ Some (named i, i + 1)
  unfolding atom_with
  atom_named room i a =
      that_way _ _ _ _ (apart symbols i symbol.PropertyName symbol.Exclamation a (λ e. cc))
      (that_way _ _ _ _ (apart symbols i symbol.PropertyName symbol.OpenParenthesis a (λ e. cc))
      (this_way _ _ _ _ (at symbols i symbol.PropertyName a) refl))

  sequence_apart : (s t : Symbol) → begins_sequence s ≡ true → begins_sequence t ≡ false → is s t ≡ false
  sequence_apart s t h k = is_other s t (λ e. let z = sym h ∙ ap begins_sequence e ∙ k in cc)

  atom_sequence : (room i : ℕ) (s : RawSere) (m : ℕ) (y : Read RawProp) → IsSere symbols room 0 s i m
      → 0 < sere_level (symbol_at symbols m)
      → marked symbols (s, m) ≡ y → atom_with symbols (inner symbols room) room i ≡ y
  unfolding atom_with
  atom_sequence room i s m y p h e =
      let b = tight_begins symbols p in
      that_way _ _ _ y (sequence_apart (symbol_at symbols i) symbol.Exclamation b refl)
      (that_way _ _ _ y (sequence_apart (symbol_at symbols i) symbol.OpenParenthesis b refl)
      (that_way _ _ _ y (sequence_apart (symbol_at symbols i) symbol.PropertyName b refl)
      (this_way (begins_sequence (symbol_at symbols i)) (tight_in symbols room i >>= marked symbols) _ y b
      (then (tight_in symbols room i) (marked symbols) (s, m) y (tight_spelled symbols p h) e))))

  marked_weak : (s : RawSere) (m : ℕ) → is_at symbols m symbol.Exclamation ≡ false → marked symbols (s, m)
      ≡ Some (seq s false, m)
  unfolding marked
  marked_weak s m h = that_way _ _ _ _ h refl

  marked_strong : (s : RawSere) (m : ℕ) → At symbols m symbol.Exclamation → marked symbols (s, m)
      ≡ Some (seq s true, m + 1)
  unfolding marked
  marked_strong s m h = this_way _ _ _ _ (at symbols m symbol.Exclamation h) refl

  inner_phrase : (r : ℕ) (phrase : Phrase) (i : ℕ) (y : Read RawProp) → phrase_with symbols (prop_at symbols r) r phrase
      i ≡ y → prop_at symbols (suc r) phrase i ≡ y
  unfolding prop_at
  inner_phrase r phrase i y e = e

  -- a bool with repetitions
  decided : (b : Bool) → (b ≡ false → ⊥) → b ≡ true
  decided true not = refl
  decided false not = absurd (not refl)

  after_none : (e : RawExpr) (m : ℕ) → is_rep (symbol_at symbols m) ≡ false → after_bool symbols (e, m)
      ≡ Some (sere.bool e, m)
  unfolding after_bool times_from loop
  after_none e m h =
      that_way (is_pick (symbol_at symbols m)) _ _ _ (right_false (is_times (symbol_at symbols m))
      (is_pick (symbol_at symbols m)) h)
      (that_way (times_go symbols m) _ _ _ (left_false (is_times (symbol_at symbols m)) (is_pick (symbol_at symbols m))
      h) refl)

  times_marked : (e : RawExpr) (m : ℕ) (s : RawSere) (j : ℕ) (y : Read RawProp) → is_rep (symbol_at symbols m) ≡ true
      → after_bool symbols (e, m) ≡ Some (s, j) → marked symbols (s, j) ≡ y → times_of symbols (bool e) m ≡ y
  unfolding times_of
  times_marked e m s j y h a k = this_way (is_rep (symbol_at symbols m)) (after_bool symbols (e, m) >>= marked symbols)
      _ y h (then (after_bool symbols (e, m)) (marked symbols) (s, j) y a k)

  abbrev is_repeat : RawSere → Bool
  is_repeat (sere.repeat s mark low high) = true
  is_repeat _ = false

  abbrev repeats : Option (RawSere × ℕ) → Bool
  repeats None = false
  repeats (Some y) = is_repeat y.0

  bool_no_repeat : (e : RawExpr) (n : ℕ) (s : RawSere) (mark : ℕ) (low high : Option ℕ) (m : ℕ)
      → ◌≡◌ {A = Option (RawSere × ℕ)} (Some (sere.bool e, n)) (Some (sere.repeat s mark low high, m)) → ⊥
  bool_no_repeat e n s mark low high m h = let z : false ≡ true = ap repeats h in cc

  low_timed : {room : ℕ} {s : RawSere} {mark : ℕ} {low high : Option ℕ} {i m : ℕ} (p : RawProp) (j : ℕ)
      → AtomFact symbols room
      → IsTimed symbols room false (sere.repeat s mark low high) i m → 0 < sere_level (symbol_at symbols m)
      → marked symbols (sere.repeat s mark low high, m) ≡ Some (p, j) → LowWay symbols room i p j
  unfolding timed_in
  low_timed {room = room} {s = s} {mark = mark} {low = low} {high = high} {i = i} {m = m} p j fact t h k =
      bound (bool_in symbols room false i) (after_bool symbols) (sere.repeat s mark low high, m)
      (timed_spelled symbols t h)
      λ x e1 e2. let b = bool_read symbols room false i x e1 in
      let rep = decided (is_rep (symbol_at symbols x.1)) (λ none. bool_no_repeat x.0 x.1 s mark low high m
      (sym (after_none x.0 x.1 none) ∙ e2)) in (
        (bool x.0, x.1),
        hdl_bool symbols fact b.0 refl b.1,
        times_marked x.0 x.1 (sere.repeat s mark low high) m (Some (p, j))
            rep e2 k,
      )

  negation_plain : (m : ℕ) (p : RawProp) → is_bool p ≡ false → negation m p ≡ prefix m p
  negation_plain m (bool e) h = absurd (cc)
  negation_plain m p h = refl

  combination_plain : (m : ℕ) (p q : RawProp) → are_bool p q ≡ false → combination m p q ≡ binary m p q
  combination_plain m (bool d) (bool e) h = absurd (cc)
  combination_plain m (bool d) q h = refl
  combination_plain m p q h = refl

  occ_opens : (r i : ℕ) (p : RawProp) (j : ℕ) → At symbols i symbol.EventuallyStrong → prop_at symbols r g.occ (i + 1)
      ≡ Some (p, j)
      → occ_with symbols (inner symbols r) r i ≡ Some (prefix i p, j)
  unfolding occ_with eventually_with
  occ_opens r i p j a e = this_way _ _ _ _ (at symbols i symbol.EventuallyStrong a)
      (then (prop_at symbols r g.occ (i + 1)) (prefix_read i) (p, j) _ e refl)

  occ_later : (r i m : ℕ) (f : Form) (p : RawProp) (j : ℕ) → is_at symbols i symbol.EventuallyStrong ≡ false
      → is_next (symbol_at symbols i) ≡ true
      → form_in symbols r i ≡ Some (f, m) → prop_at symbols r g.occ m ≡ Some (p, j)
      → occ_with symbols (inner symbols r) r i ≡ Some (next i f.0 f.1 f.2 p, j)
  unfolding occ_with next_with
  occ_later r i m f p j a b e k =
      that_way _ _ _ _ a (this_way _ _ _ _ b
      (then (form_in symbols r i) (λ f. prop_at symbols r g.occ f.1 >>= λ p. Some (next i f.0.0 f.0.1 f.0.2 p.0, p.1))
      (f, m) _ e
      (then (prop_at symbols r g.occ m) (λ p. Some (next i f.0 f.1 f.2 p.0, p.1)) (p, j) _ k refl)))

  untl_joins : (r i : ℕ) (l q : RawProp) (m j : ℕ) → occ_with symbols (inner symbols r) r i ≡ Some (l, m)
      → At symbols m symbol.Until
      → occ_with symbols (inner symbols r) r (m + 1) ≡ Some (q, j)
      → untl_with symbols (inner symbols r) r i ≡ Some (binary m l q, j)
  unfolding untl_with until_with
  untl_joins r i l q m j e a k =
      then (occ_with symbols (inner symbols r) r i) (until_with symbols (inner symbols r) r) (l, m) _ e
      (this_way _ _ _ _ (at symbols m symbol.Until a)
      (then (occ_with symbols (inner symbols r) r (m + 1)) (joined_read (l, m))
      (q, j) _ k refl))

  suff_joins : (r i : ℕ) (s : RawSere) (p : RawProp) (m j : ℕ)
      → untl_with symbols (inner symbols r) r i ≡ Some (seq s false, m)
      → At symbols m symbol.Suffix
      → is_at symbols (m - 1) symbol.CloseParenthesis ≡ false → prop_at symbols r g.suff (m + 1) ≡ Some (p, j)
      → suff_with symbols (inner symbols r) r i ≡ Some (suffix m s p, j)
  unfolding suff_with suffix_with suffix_of
  suff_joins r i s p m j e a h k =
      then (untl_with symbols (inner symbols r) r i) (suffix_with symbols (inner symbols r) r) (seq s false, m) _ e
      (this_way _ _ _ _ (at symbols m symbol.Suffix a) (that_way _ _ _ _ h
      (then (prop_at symbols r g.suff (m + 1)) (λ p. Some (suffix m s p.0, p.1)) (p, j) _ k refl)))

  impl_implies : (r i : ℕ) (l q : RawProp) (m j : ℕ) → suff_with symbols (inner symbols r) r i ≡ Some (l, m)
      → At symbols m symbol.Arrow
      → prop_at symbols r g.impl (m + 1) ≡ Some (q, j)
      → impl_with symbols (inner symbols r) r i ≡ Some (binary m l q, j)
  unfolding impl_with implied_with
  impl_implies r i l q m j e a k =
      then (suff_with symbols (inner symbols r) r i) (implied_with symbols (inner symbols r) r) (l, m) _ e
      (this_way _ _ _ _ (at symbols m symbol.Arrow a) (then (prop_at symbols r g.impl (m + 1)) (joined_read (l, m))
      (q, j) _ k refl))

  impl_iff : (r i : ℕ) (l q : RawProp) (m j : ℕ) → suff_with symbols (inner symbols r) r i ≡ Some (l, m)
      → At symbols m symbol.DoubleArrow
      → suff_with symbols (inner symbols r) r (m + 1) ≡ Some (q, j)
      → impl_with symbols (inner symbols r) r i ≡ Some (binary m l q, j)
  unfolding impl_with implied_with
  impl_iff r i l q m j e a k =
      then (suff_with symbols (inner symbols r) r i) (implied_with symbols (inner symbols r) r) (l, m) _ e
      (that_way _ _ _ _ (apart symbols m symbol.DoubleArrow symbol.Arrow a (λ e. cc))
      (this_way _ _ _ _ (at symbols m symbol.DoubleArrow a) (then (suff_with symbols (inner symbols r) r (m + 1))
      (joined_read (l, m)) (q, j) _ k refl)))

  prop_opens : (r i : ℕ) (p : RawProp) (j : ℕ) → At symbols i symbol.Always → prop_at symbols r g.prop (i + 1)
      ≡ Some (p, j)
      → prop_with symbols (inner symbols r) r i ≡ Some (prefix i p, j)
  unfolding prop_with always_with
  prop_opens r i p j a e = this_way _ _ _ _ (at symbols i symbol.Always a)
      (then (prop_at symbols r g.prop (i + 1)) (prefix_read i) (p, j) _ e refl)

  -- a sequence that stands before a suffix
  seq_untl : {room : ℕ} {s : RawSere} {i m : ℕ} → IsSeq symbols room s i m → At symbols m symbol.Suffix
      → untl_with symbols (inner symbols room) room i ≡ Some (seq s false, m)
  seq_untl {room = room} {s = s} {i = i} {m = m} q a =
      let z : follow (symbol_at symbols m) ≡ 15 = rw a refl in
      let low = seq_low q (omega (arith, z)) in
      let abt = abt_stops symbols room i (seq s false) m (abt_begins symbols room i (seq s false) m low) (seq_within q)
      (not_mark symbols room m symbol.Abort 14 (omega (arith, z)) (lit≤ tt)) in
      untl_plain symbols room i (seq s false) m (occ_plain symbols room i (seq s false) m abt (seq_starts symbols q))
      (not_mark symbols room m symbol.Until 14 (omega (arith, z)) (lit≤ tt))
    where
      seq_within : {room : ℕ} {s : RawSere} {i m : ℕ} → IsSeq symbols room s i m → m ≤ length symbols
      seq_within (seres.tight p) = (sere_bounds symbols p).1
      seq_within (seres.IsSeq.timed p) = (timed_bounds symbols p).1

      seq_low : {room : ℕ} {s : RawSere} {i m : ℕ} → IsSeq symbols room s i m → 14 < follow (symbol_at symbols m)
          → LowWay symbols room i (seq s false) m
      seq_low {room = room} {s = s} {i = i} {m = m} (seres.tight p) h =
          let not = not_eleven symbols m 14 (lit≤ tt) h in
          let atom = atom_sequence room i s m _ p (follow_sere (symbol_at symbols m) not)
          (marked_weak s m (level_not (symbol_at symbols m) symbol.Exclamation 11 refl not)) in
          let factor = factor_of symbols room i (seq s false) m _ atom
          (tighter_plain symbols room (seq s false) m refl) in
          let both = both_stops symbols room i (seq s false) m (both_begins symbols room i (seq s false) m factor)
          (sere_bounds symbols p).1 (not_mark symbols room m symbol.AndAnd 14 h (lit≤ tt)) in
          let either = either_stops symbols room i (seq s false) m (either_begins symbols room i (seq s false) m both)
          (sere_bounds symbols p).1 (not_mark symbols room m symbol.OrOr 14 h (lit≤ tt)) in
          low_of symbols room i (seq s false) m (hdl_of symbols room i (seq s false) m either
          (not_mark symbols room m symbol.Question 14 h (lit≤ tt))) (no_rep (symbol_at symbols m) not)
      seq_low {room = room} {i = i} {m = m} (seres.IsSeq.timed p) h =
          let not = not_eleven symbols m 14 (lit≤ tt) h in
          low_timed _ m (atoms symbols room) p (follow_sere (symbol_at symbols m) not)
          (marked_weak _ m (level_not (symbol_at symbols m) symbol.Exclamation 11 refl not))

  abbrev Spelled : (room : ℕ) (phrase : Phrase) (p : RawProp) (i j : ℕ) → Type 0
  Spelled room g.primary p i j = (follow (symbol_at symbols j) ≡ 11 → ⊥) → atom_with symbols (inner symbols room) room i
      ≡ Some (p, j)
  Spelled room g.factor p i j = 7 < follow (symbol_at symbols j) → (follow (symbol_at symbols j) ≡ 11 → ⊥)
      → factor_with symbols (inner symbols room) room i ≡ Some (p, j)
  Spelled room g.both p i j = 7 < follow (symbol_at symbols j) → (follow (symbol_at symbols j) ≡ 11 → ⊥)
      → BothWay symbols room i p j
  Spelled room g.either p i j = 8 < follow (symbol_at symbols j) → (follow (symbol_at symbols j) ≡ 11 → ⊥)
      → EitherWay symbols room i p j
  Spelled room g.hdl p i j = 10 < follow (symbol_at symbols j) → (follow (symbol_at symbols j) ≡ 11 → ⊥)
      → HdlWay symbols room i p j
  Spelled room g.low p i j = 11 < follow (symbol_at symbols j) → LowWay symbols room i p j
  Spelled room g.abt p i j = 11 < follow (symbol_at symbols j) → AbtWay symbols room i p j
  Spelled room g.occ p i j = 12 < follow (symbol_at symbols j)
      → occ_with symbols (inner symbols room) room i ≡ Some (p, j)
  Spelled room g.untl p i j = 14 < follow (symbol_at symbols j)
      → untl_with symbols (inner symbols room) room i ≡ Some (p, j)
  Spelled room g.suff p i j = 15 < follow (symbol_at symbols j)
      → suff_with symbols (inner symbols room) room i ≡ Some (p, j)
  Spelled room g.impl p i j = 16 < follow (symbol_at symbols j)
      → impl_with symbols (inner symbols room) room i ≡ Some (p, j)
  Spelled room g.prop p i j = 17 < follow (symbol_at symbols j)
      → prop_with symbols (inner symbols room) room i ≡ Some (p, j)

  at_follow : (m : ℕ) (t : Symbol) → At symbols m t → follow (symbol_at symbols m) ≡ follow t
  at_follow m t a = ap follow a

  pub spelled : {room : ℕ} {phrase : Phrase} {p : RawProp} {i j : ℕ} → IsProp symbols room phrase p i j
      → Spelled room phrase p i j
  unfolding phrase_with
  spelled (g.parens {room = r} {p = p} {i = i} {j = j} a q nb c) = λ h.
      let z = at_follow j symbol.CloseParenthesis c in
      atom_plain (suc r) i p j a (inner_phrase r g.prop (i + 1) _ (spelled q (omega (arith, z)))) c
  spelled {room = room} (g.named {i = i} a) = λ h. atom_named room i a
  spelled {room = room} (g.weak {s = s} {i = i} {j = j} p) = λ h.
      atom_sequence room i s j _ p (follow_sere (symbol_at symbols j) h)
      (marked_weak s j (level_not (symbol_at symbols j) symbol.Exclamation 11 refl h))
  spelled {room = room} (g.strong {s = s} {i = i} {j = j} p a) = λ h.
      atom_sequence room i s j _ p (let z : sere_level (symbol_at symbols j) ≡ 7 = rw a refl in omega (arith, z))
      (marked_strong s j a)
  spelled (g.negated {room = r} {p = p} {i = i} {j = j} a q) = λ h.
      atom_not symbols (suc r) i p j (at symbols i symbol.Exclamation a)
      (inner_phrase r g.primary (i + 1) _ (spelled q h))
      ∙ ap (λ (x : RawProp). Some (x, j)) (negation_plain i p (primary_plain q))
  spelled {room = room} (g.factor_bool {j = j} p) = λ h k.
      factor_bool symbols room (atoms symbols room) p (follow_ends symbols 7 j (lit< tt) h)
  spelled {room = room} (g.factor_primary {p = p} {i = i} {j = j} q) = λ h k.
      factor_of symbols room i p j _ (spelled q k)
      (tighter_plain symbols room p j (primary_plain q))
  spelled {room = room} (g.both_bool {j = j} p) = λ h k.
      both_bool symbols (atoms symbols room) p refl (follow_ends symbols 7 j (lit< tt) h)
  spelled {room = room} (g.both_factor {p = p} {i = i} {j = j} q) = λ h k.
      both_begins symbols room i p j (spelled q h k)
  spelled {room = room} (g.both_and {l = l} {r = r} {i = i} {m = m} {j = j} p a q nb) = λ h k.
      let z = at_follow m symbol.AndAnd a in
      let lt = prop_some symbols q in
      subst (λ (x : RawProp). BothWay symbols room i x j) (combination_plain m l r nb)
      (both_turns symbols room i l r m j (spelled p (omega (arith, z)) (λ e. omega (arith, z, e)))
      (prop_bounds symbols p)
      (at symbols m symbol.AndAnd a) (spelled q h k) (omega arith))
  spelled {room = room} (g.either_bool {j = j} p) = λ h k.
      either_bool symbols (atoms symbols room) p refl (follow_ends symbols 8 j (lit< tt) h)
  spelled {room = room} (g.either_both {p = p} {i = i} {j = j} q) = λ h k.
      either_begins symbols room i p j
      (both_stops symbols room i p j (spelled q (omega arith) k) (prop_bounds symbols q)
      (not_mark symbols room j symbol.AndAnd 8 h (lit≤ tt)))
  spelled {room = room} (g.either_or {l = l} {r = r} {i = i} {m = m} {j = j} p a q nb) = λ h k.
      let z = at_follow m symbol.OrOr a in
      let lt = prop_some symbols q in
      subst (λ (x : RawProp). EitherWay symbols room i x j) (combination_plain m l r nb)
      (either_turns symbols room i l r m j (spelled p (omega (arith, z)) (λ e. omega (arith, z, e)))
      (prop_bounds symbols p)
      (at symbols m symbol.OrOr a)
      (both_stops symbols room (m + 1) r j (spelled q (omega arith) k) (prop_bounds symbols q)
      (not_mark symbols room j symbol.AndAnd 8 h (lit≤ tt))) (omega arith))
  spelled {room = room} (g.hdl_bool {j = j} p) = λ h k.
      hdl_bool symbols (atoms symbols room) p refl (follow_ends symbols 10 j (lit< tt) h)
  spelled {room = room} (g.hdl_either {p = p} {i = i} {j = j} q) = λ h k.
      hdl_of symbols room i p j (either_stops symbols room i p j (spelled q (omega arith) k) (prop_bounds symbols q)
      (not_mark symbols room j symbol.OrOr 10 h (lit≤ tt))) (not_mark symbols room j symbol.Question 10 h (lit≤ tt))
  spelled {room = room} (g.low_timed {j = j} p) = λ h.
      let not = not_eleven symbols j 11 (lit≤ tt) h in
      low_timed _ j (atoms symbols room) p (follow_sere (symbol_at symbols j) not)
      (marked_weak _ j (level_not (symbol_at symbols j) symbol.Exclamation 11 refl not))
  spelled {room = room} (g.low_strong {j = j} p a) = λ h.
      low_timed _ (j + 1) (atoms symbols room) p
      (let z : sere_level (symbol_at symbols j) ≡ 7 = rw a refl in omega (arith, z))
      (marked_strong _ j a)
  spelled {room = room} (g.low_hdl {p = p} {i = i} {j = j} q) = λ h.
      let not = not_eleven symbols j 11 (lit≤ tt) h in low_of symbols room i p j (spelled q (omega arith) not)
      (no_rep (symbol_at symbols j) not)
  spelled {room = room} (g.abt_abort {p = p} {e = e} {i = i} {m = m} {j = j} q a b) = λ h.
      let z = at_follow m symbol.Abort a in
      let lt = bounds symbols 10 e (m + 1) j b.0 in
      abt_turns symbols room i p e m j (spelled q (omega (arith, z))) (prop_bounds symbols q)
      (at symbols m symbol.Abort a)
      (bool_spelled symbols false b) (omega arith)
  spelled {room = room} (g.abt_low {p = p} {i = i} {j = j} q) = λ h. abt_begins symbols room i p j (spelled q h)
  spelled (g.occ_eventually {room = r} {p = p} {i = i} {j = j} a q) = λ h. occ_opens (suc r) i p j a
      (inner_phrase r g.occ (i + 1) _ (spelled q h))
  spelled (g.occ_next {room = r} {on = on} {low_count = low} {high_count = high} {p = p} {i = i} {m = m} {j = j} f q) =
      λ h.
      occ_later (suc r) i m (on, low, high) p j (form_not_eventually f) (form_is_next f)
      (form_spelled f (no_bracket symbols q)) (inner_phrase r g.occ m _ (spelled q h))
  spelled {room = room} (g.occ_abt {p = p} {i = i} {j = j} q) = λ h.
      occ_plain symbols room i p j (abt_stops symbols room i p j (spelled q (omega arith)) (prop_bounds symbols q)
      (not_mark symbols room j symbol.Abort 12 h (lit≤ tt))) (starts symbols q)
  spelled {room = room} (g.untl_until {l = l} {r = r} {i = i} {m = m} {j = j} p a q) = λ h.
      let z = at_follow m symbol.Until a in untl_joins room i l r m j (spelled p (omega (arith, z))) a
      (spelled q (omega arith))
  spelled {room = room} (g.untl_occ {p = p} {i = i} {j = j} q) = λ h.
      untl_plain symbols room i p j (spelled q (omega arith))
      (not_mark symbols room j symbol.Until 14 h (lit≤ tt))
  spelled (g.suff_suffix {room = r} {s = s} {p = p} {i = i} {m = m} {j = j} t a q) = λ h.
      suff_joins (suc r) i s p m j (seq_untl t a) a (seq_end symbols t) (inner_phrase r g.suff (m + 1) _ (spelled q h))
  spelled {room = room} (g.suff_untl {p = p} {i = i} {j = j} q) = λ h.
      suff_plain symbols room i p j (spelled q (omega arith))
      (not_mark symbols room j symbol.Suffix 15 h (lit≤ tt))
  spelled (g.impl_implies {room = r} {l = l} {r = q} {i = i} {m = m} {j = j} p a b) = λ h.
      let z = at_follow m symbol.Arrow a in impl_implies (suc r) i l q m j (spelled p (omega (arith, z))) a
      (inner_phrase r g.impl (m + 1) _ (spelled b h))
  spelled {room = room} (g.impl_iff {l = l} {r = q} {i = i} {m = m} {j = j} p a b) = λ h.
      let z = at_follow m symbol.DoubleArrow a in impl_iff room i l q m j (spelled p (omega (arith, z))) a
      (spelled b (omega arith))
  spelled {room = room} (g.impl_suff {p = p} {i = i} {j = j} q) = λ h.
      impl_plain symbols room i p j (spelled q (omega arith)) (not_mark symbols room j symbol.Arrow 16 h (lit≤ tt))
      (not_mark symbols room j symbol.DoubleArrow 16 h (lit≤ tt))
  spelled (g.prop_always {room = r} {p = p} {i = i} {j = j} a q) = λ h. prop_opens (suc r) i p j a
      (inner_phrase r g.prop (i + 1) _ (spelled q h))
  spelled {room = room} (g.prop_impl {p = p} {i = i} {j = j} q) = λ h.
      prop_plain symbols room i p j (spelled q (omega arith))
      (starts symbols q)

  pub prop_spelled : {room : ℕ} {p : RawProp} {i j : ℕ} → IsProp symbols room g.prop p i j
      → 17 < follow (symbol_at symbols j)
      → prop_with symbols (prop_at symbols room) room i ≡ Some (p, j)
  prop_spelled p h = spelled p h

  pub seq_spelled : {room : ℕ} {s : RawSere} {i m : ℕ} → IsSeq symbols room s i m → 17 < follow (symbol_at symbols m)
      → prop_with symbols (prop_at symbols room) room i ≡ Some (seq s false, m)
  seq_spelled (seres.tight p) h = prop_spelled (g.prop_impl (g.impl_suff
      (g.suff_untl (g.untl_occ (g.occ_abt (g.abt_low (g.low_hdl
      (g.hdl_either (g.either_both (g.both_factor (g.factor_primary (g.weak p)))))))))))) h
  seq_spelled (seres.IsSeq.timed p) h = prop_spelled (g.prop_impl
      (g.impl_suff (g.suff_untl (g.untl_occ (g.occ_abt (g.abt_low (g.low_timed p))))))) h
