-- What is read is a property.
use Rattle.std.proofs.Common.{◌≡◌, ℕ, suc, ◌+◌, ◌-◌, ◌⊎◌, inl, inr, Bool, true, false, ◌||◌, Option, Some, None, List}
use Rattle.std.proofs.Common.{length, refl, sym, subst, ◌∙◌, arith, lit<, lit≤}
use Rattle.psl_grammar.specs.declared.symbols.Symbol.{Symbol}
use Rattle.psl_grammar.specs.declared.symbols.Symbol.TheVariants as symbol
use Rattle.psl_grammar.specs.Symbols.{symbol_at, At, after_level, is_pick}
use Rattle.psl_grammar.specs.RawExpr.{RawExpr}
use Rattle.psl_grammar.specs.RawSere.{RawSere}
use Rattle.psl_grammar.specs.RawSere as sere
use Rattle.psl_grammar.specs.RawProp.{RawProp, bool, seq, abort}
use Rattle.psl_grammar.specs.ExprGrammar.{IsExpr, Ends, joined, looser}
use Rattle.psl_grammar.specs.SereGrammar.{IsTimed, IsSeq}
use Rattle.psl_grammar.specs.SereGrammar as seres
use Rattle.psl_grammar.specs.PropGrammar.{IsCount, IsRange, IsParen, IsNextForm, Phrase}
use Rattle.psl_grammar.specs.PropGrammar.{IsProp}
use Rattle.psl_grammar.specs.PropGrammar as g
use Rattle.unit_reader.specs.inner.Steps.{◌>>=◌, is_at, loop}
use Rattle.unit_reader.specs.inner.ExprReaders.{choice_at, operand_in, levels_with, branches_with, bool_in}
use Rattle.unit_reader.specs.inner.SereReaders.{is_times, repeated, times_at, times_go, again_with, times_from, pick_at}
use Rattle.unit_reader.specs.inner.SereReaders.{after_bool}
use Rattle.unit_reader.specs.inner.FormReaders.{Form, count_end, range_end, on_in, next_at, next_range_at}
use Rattle.unit_reader.specs.inner.FormReaders.{event_count_at, event_range_at, form_in}
use Rattle.unit_reader.specs.inner.PropReaders.{combination, is_rep, as_bool, marked, tighter_of, branches_of, times_of}
use Rattle.unit_reader.specs.inner.PropReaders.{abort_with, goes_at, aborts_from, settled}
use Rattle.unit_reader.proofs.SymbolTests.{is_same, is_self, bound, needed, one_way, given, loop_reads}
use Rattle.unit_reader.proofs.ExprReads.{levels_are, branches_are, paren_is}
use Rattle.unit_reader.proofs.SereReads.{bool_read, after_read}
use Rattle.unit_reader.proofs.SereFacts.{times_are}

module _ (symbols : List Symbol) where
  pub at : (i : ℕ) (s : Symbol) → is_at symbols i s ≡ true → At symbols i s
  at i s h = is_same (symbol_at symbols i) s h

  -- ---- forms of next

  pub count_read : (i y : ℕ) → count_end symbols i ≡ Some y → IsCount symbols i × (y ≡ i + 3)
  unfolding count_end
  count_read i y e =
      needed _ _ y e λ a e1. needed _ _ y e1 λ b e2. needed _ _ y e2
      λ c e3. given (λ (z : ℕ). IsCount symbols i × (z ≡ i + 3)) e3 (
        record {
          opens = at i symbol.OpenBracket a;
          number = at (i + 1) symbol.Number b;
          closes =
              at (i + 2) symbol.CloseBracket c;
        },
        refl,
      )

  pub range_read : (i y : ℕ) → range_end symbols i ≡ Some y → IsRange symbols i × (y ≡ i + 5)
  unfolding range_end
  range_read i y e =
      needed _ _ y e λ a e1. needed _ _ y e1 λ b e2. needed _ _ y e2 λ c e3. needed _ _ y e3 λ d e4. needed _ _ y e4
      λ f e5. given (λ (z : ℕ). IsRange symbols i × (z ≡ i + 5)) e5 (
        record {
          opens = at i symbol.OpenBracket a;
          low = at (i + 1) symbol.Number b;
          colon = at (i + 2) symbol.Colon c;
          high = at (i + 3) symbol.Number d;
          closes = at (i + 4) symbol.CloseBracket f;
        },
        refl,
      )

  on_read : (room i : ℕ) (y : RawExpr × ℕ) → on_in symbols room i ≡ Some y → IsParen symbols room y.0 i y.1
  unfolding on_in
  on_read room i y e = needed _ _ y e λ a e1. paren_is symbols room i y (at i symbol.OpenParenthesis a) e1

  abbrev pub FormIs : (room i : ℕ) → Form × ℕ → Type 0
  FormIs room i y = IsNextForm symbols room y.0.0 y.0.1 y.0.2 i y.1

  next_form : (room i : ℕ) (y : Form × ℕ) → At symbols i symbol.Next → next_at symbols i ≡ Some y → FormIs room i y
  unfolding next_at
  next_form room i y a e =
      one_way (is_at symbols (i + 1) symbol.OpenBracket) (count_end symbols (i + 1) >>=
      λ j. Some ((None, Some (i + 2), None), j)) (Some ((None, None, None), i + 1)) y e
      (λ _ e1. bound (count_end symbols (i + 1)) (λ j. Some ((None, Some (i + 2), None), j)) y e1
      λ j e2 e3. given (FormIs room i) e3
      (let c = count_read (i + 1) j e2 in
      let same : i + 4 ≡ j = omega (arith, c.1) in
      subst (λ (n : ℕ). IsNextForm symbols room None (Some (i + 2)) None i n) same (g.next_count a c.0)))
      λ _ e1. given (FormIs room i) e1 (g.IsNextForm.next a)

  next_range_form : (room i : ℕ) (y : Form × ℕ) → At symbols i symbol.NextRange → next_range_at symbols i ≡ Some y
      → FormIs room i y
  unfolding next_range_at
  next_range_form room i y a e =
      bound (range_end symbols (i + 1)) (λ j. Some ((None, Some (i + 2), Some (i + 4)), j)) y e
      λ j e2 e3. given (FormIs room i) e3
      (let c = range_read (i + 1) j e2 in
      let same : i + 6 ≡ j = omega (arith, c.1) in
      subst (λ (n : ℕ). IsNextForm symbols room None (Some (i + 2)) (Some (i + 4)) i n) same (g.next_range a c.0))

  event_form : (room i : ℕ) (on : RawExpr × ℕ) (y : Form × ℕ) → At symbols i symbol.Event
      → IsParen symbols room on.0 (i + 1) on.1
      → event_count_at symbols on ≡ Some y → FormIs room i y
  unfolding event_count_at
  event_form room i on y a p e =
      one_way (is_at symbols on.1 symbol.OpenBracket) (count_end symbols on.1 >>=
      λ j. Some ((Some on.0, Some (on.1 + 1), None), j)) (Some ((Some on.0, None, None), on.1)) y e
      (λ _ e1. bound (count_end symbols on.1) (λ j. Some ((Some on.0, Some (on.1 + 1), None), j)) y e1
      λ j e2 e3. given (FormIs room i) e3
      (let c = count_read on.1 j e2 in
      subst (λ (n : ℕ). IsNextForm symbols room (Some on.0) (Some (on.1 + 1)) None i n) (sym c.1)
      (g.event_count a p c.0)))
      λ _ e1. given (FormIs room i) e1 (g.event a p)

  event_range_form : (room i : ℕ) (on : RawExpr × ℕ) (y : Form × ℕ) → At symbols i symbol.EventRange
      → IsParen symbols room on.0 (i + 1) on.1
      → event_range_at symbols on ≡ Some y → FormIs room i y
  unfolding event_range_at
  event_range_form room i on y a p e =
      bound (range_end symbols on.1) (λ j. Some ((Some on.0, Some (on.1 + 1), Some (on.1 + 3)), j)) y e
      λ j e2 e3. given (FormIs room i) e3
      (let c = range_read on.1 j e2 in
      subst (λ (n : ℕ). IsNextForm symbols room (Some on.0) (Some (on.1 + 1)) (Some (on.1 + 3)) i n) (sym c.1)
      (g.event_range a p c.0))

  pub form_read : (room i : ℕ) (y : Form × ℕ) → form_in symbols room i ≡ Some y → FormIs room i y
  unfolding form_in
  form_read room i y e =
      one_way _ _ _ y e (λ a e1. next_form room i y (at i symbol.Next a) e1)
      λ _ e1. one_way _ _ _ y e1 (λ a e2. next_range_form room i y (at i symbol.NextRange a) e2)
      λ _ e2. one_way _ _ _ y e2
      (λ a e3. bound _ _ y e3 λ on e4 e5. event_form room i on y (at i symbol.Event a) (on_read room (i + 1) on e4) e5)
      λ _ e3. needed _ _ y e3
      λ a e4. bound _ _ y e4 λ on e5 e6. event_range_form room i on y (at i symbol.EventRange a)
      (on_read room (i + 1) on e5) e6

  -- ---- phrases up to hdl: a bool is an expression of the level

  abbrev pub HdlIs : (room : ℕ) (phrase : Phrase) (level : ℕ) → RawProp → (i j : ℕ) → Type 0
  HdlIs room phrase level (bool e) i j = IsExpr symbols room level e i j
  HdlIs room phrase level p i j = IsProp symbols room phrase p i j

  abbrev Hdl : (room : ℕ) (phrase : Phrase) (level i : ℕ) → RawProp × ℕ → Type 0
  Hdl room phrase level i y = HdlIs room phrase level y.0 i y.1

  as_factor : (room : ℕ) (p : RawProp) (i j : ℕ) → HdlIs room g.factor 7 p i j → IsProp symbols room g.factor p i j
  as_factor room (bool e) i j h = g.factor_bool h
  as_factor room p i j h = h

  as_both : (room : ℕ) (p : RawProp) (i j : ℕ) → HdlIs room g.both 8 p i j → IsProp symbols room g.both p i j
  as_both room (bool e) i j h = g.both_bool h
  as_both room p i j h = h

  as_either : (room : ℕ) (p : RawProp) (i j : ℕ) → HdlIs room g.either 9 p i j → IsProp symbols room g.either p i j
  as_either room (bool e) i j h = g.either_bool h
  as_either room p i j h = h

  as_hdl : (room : ℕ) (p : RawProp) (i j : ℕ) → HdlIs room g.hdl 10 p i j → IsProp symbols room g.hdl p i j
  as_hdl room (bool e) i j h = g.hdl_bool h
  as_hdl room p i j h = h

  pub tighter_read : (room : ℕ) (p : RawProp) (i m : ℕ) (y : RawProp × ℕ) → HdlIs room g.primary 0 p i m
      → tighter_of symbols room p m ≡ Some y
      → Hdl room g.factor 7 i y
  unfolding tighter_of
  tighter_read room (bool e) i m y h t =
      bound (levels_with symbols (operand_in symbols room) false 7 (e, m)) as_bool y t
      λ x e1 e2. given (Hdl room g.factor 7 i) e2 (levels_are symbols room 7 i (e, m) x (lit≤ tt) h e1)
  tighter_read room p i m y h t = given (Hdl room g.factor 7 i) t (g.factor_primary h)

  pub factor_both : (room : ℕ) (p : RawProp) (i j : ℕ) → HdlIs room g.factor 7 p i j → HdlIs room g.both 8 p i j
  factor_both room (bool e) i j h = looser h
  factor_both room p i j h = g.both_factor h

  pub both_either : (room : ℕ) (p : RawProp) (i j : ℕ) → HdlIs room g.both 8 p i j → HdlIs room g.either 9 p i j
  both_either room (bool e) i j h = looser h
  both_either room p i j h = g.either_both h

  pub and_case : (room : ℕ) (p q : RawProp) (i m j : ℕ) → HdlIs room g.both 8 p i m → At symbols m symbol.AndAnd
      → HdlIs room g.factor 7 q (m + 1) j
      → HdlIs room g.both 8 (combination m p q) i j
  and_case room (bool d) (bool e) i m j h a k = joined (lit< tt) h (rw a refl) k
  and_case room (bool d) q i m j h a k = g.both_and (g.both_bool h) a k refl
  and_case room p (bool e) i m j h a k = g.both_and h a (g.factor_bool k) refl
  and_case room p q i m j h a k = g.both_and h a k refl

  pub or_case : (room : ℕ) (p q : RawProp) (i m j : ℕ) → HdlIs room g.either 9 p i m → At symbols m symbol.OrOr
      → HdlIs room g.both 8 q (m + 1) j
      → HdlIs room g.either 9 (combination m p q) i j
  or_case room (bool d) (bool e) i m j h a k = joined (lit< tt) h (rw a refl) k
  or_case room (bool d) q i m j h a k = g.either_or (g.either_bool h) a k refl
  or_case room p (bool e) i m j h a k = g.either_or h a (g.both_bool k) refl
  or_case room p q i m j h a k = g.either_or h a k refl

  branches_read : (room : ℕ) (p : RawProp) (i m : ℕ) (y : RawProp × ℕ) → HdlIs room g.either 9 p i m
      → branches_of symbols room p m ≡ Some y
      → Hdl room g.hdl 10 i y
  unfolding branches_of
  branches_read room (bool e) i m y h t =
      bound (branches_with symbols (choice_at symbols room) false (e, m)) as_bool y t
      λ x e1 e2. given (Hdl room g.hdl 10 i) e2 (branches_are symbols room false i (e, m) x h e1)
  branches_read room p i m y h t = given (Hdl room g.hdl 10 i) t (g.hdl_either h)

  -- ---- repetitions behind a bool

  abbrev Repeated : RawSere × ℕ → Type 0
  Repeated y = (s : RawSere) × (mark : ℕ) × (low : Option ℕ) × (high : Option ℕ) × (y.0 ≡ sere.repeat s mark low high)

  again_repeated : (a b : RawSere × ℕ) → again_with symbols a ≡ Some b → Repeated b
  unfolding again_with
  again_repeated a b step =
      bound (times_at symbols a.1) (λ r. Some (repeated a.0 r.0, r.1)) b step
      λ r e1 e2. given Repeated e2 (a.0, r.0.mark, r.0.low, r.0.high, refl)

  from_repeated : (n : ℕ) (x y : RawSere × ℕ) → Repeated x → loop (times_go symbols) (again_with symbols) n x ≡ Some y
      → Repeated y
  from_repeated n x y p e = loop_reads (times_go symbols) (again_with symbols) Repeated
      (λ a b more pa step. again_repeated a b step) n x y p e

  both_not : (a b : Bool) → a || b ≡ true → b ≡ false → a ≡ true
  both_not true b h k = refl
  both_not false b h k = absurd (cc)

  after_repeated : (e : RawExpr × ℕ) (y : RawSere × ℕ) → is_rep (symbol_at symbols e.1) ≡ true → after_bool symbols e
      ≡ Some y → Repeated y
  unfolding after_bool times_from loop
  after_repeated e y rep given_y =
      one_way (is_pick (symbol_at symbols e.1)) (pick_at symbols e.1 >>=
      λ r. times_from symbols (repeated (sere.bool e.0) r.0, r.1)) (times_from symbols (sere.bool e.0, e.1)) y given_y
      (λ h e1. bound (pick_at symbols e.1) (λ r. times_from symbols (repeated (sere.bool e.0) r.0, r.1)) y e1
      λ r e2 e3. from_repeated (suc (length symbols)) (repeated (sere.bool e.0) r.0, r.1) y
      (sere.bool e.0, r.0.mark, r.0.low, r.0.high, refl) e3)
      (λ h e1. one_way (times_go symbols e.1) (again_with symbols (sere.bool e.0, e.1) >>=
      loop (times_go symbols) (again_with symbols) (length symbols)) (Some (sere.bool e.0, e.1)) y e1
      (λ more e2. bound (again_with symbols (sere.bool e.0, e.1))
      (loop (times_go symbols) (again_with symbols) (length symbols)) y e2
      λ z e3 e4. from_repeated (length symbols) z y (again_repeated (sere.bool e.0, e.1) z e3) e4)
      (λ over e2. absurd (let t = both_not (is_times (symbol_at symbols e.1)) (is_pick (symbol_at symbols e.1)) rep h in
      let z = sym over ∙ t in cc)))

  pick_plain : (s : Symbol) → is_pick s ≡ true → after_level s ≡ 11
  pick_plain symbol.GotoOpen h = refl
  pick_plain symbol.EqualRepeatOpen h = refl
  pick_plain _ h = absurd (cc)

  times_plain : (s : Symbol) → is_times s ≡ true → after_level s ≡ 11
  times_plain s h = elim (times_are s h) [ inl a ↦ rw a refl | inr b ↦ rw b refl ]

  either_true : (a b : Bool) → a || b ≡ true → (a ≡ true) ⊎ (b ≡ true)
  either_true true b h = inl refl
  either_true false b h = inr h

  pub rep_ends : (m : ℕ) → is_rep (symbol_at symbols m) ≡ true → Ends symbols false 10 m
  rep_ends m h =
      let z : after_level (symbol_at symbols m) ≡ 11 = elim (either_true (is_times (symbol_at symbols m))
      (is_pick (symbol_at symbols m)) h)
      [ inl a ↦ times_plain (symbol_at symbols m) a | inr b ↦ pick_plain (symbol_at symbols m) b ] in
      omega (arith, z)

  abbrev LowIs : (room i : ℕ) → RawProp × ℕ → Type 0
  LowIs room i y = IsProp symbols room g.low y.0 i y.1

  marked_timed : (room i : ℕ) (s : RawSere × ℕ) (y : RawProp × ℕ) → IsTimed symbols room false s.0 i s.1 → Repeated s
      → marked symbols s ≡ Some y → LowIs room i y
  unfolding marked
  marked_timed room i s y t (r, mark, low, high, same) e =
      let timed : IsTimed symbols room false (sere.repeat r mark low high) i s.1 =
      subst (λ (x : RawSere). IsTimed symbols room false x i s.1) same t in
      one_way _ _ _ y e
      (λ h e1. given (LowIs room i) e1 (subst (λ (x : RawSere). IsProp symbols room g.low (seq x true) i (s.1 + 1))
      (sym same) (g.low_strong timed (at s.1 symbol.Exclamation h))))
      λ _ e1. given (LowIs room i) e1 (subst (λ (x : RawSere). IsProp symbols room g.low (seq x false) i s.1) (sym same)
      (g.low_timed timed))

  times_read : (room : ℕ) (p : RawProp) (i m : ℕ) (y : RawProp × ℕ) → HdlIs room g.hdl 10 p i m → times_of symbols p m
      ≡ Some y → LowIs room i y
  unfolding times_of
  times_read room (bool e) i m y h t =
      one_way (is_rep (symbol_at symbols m)) (after_bool symbols (e, m) >>= marked symbols) (Some (bool e, m)) y t
      (λ rep e1. bound (after_bool symbols (e, m)) (marked symbols) y e1
      λ s e2 e3. marked_timed room i s y (after_read symbols room false i (e, m) s (h, rep_ends m rep) e2)
      (after_repeated (e, m) s rep e2) e3)
      λ _ e1. given (LowIs room i) e1 (g.low_hdl (g.hdl_bool h))
  times_read room p i m y h t = given (LowIs room i) t (g.low_hdl h)

  abbrev pub AbtIs : (room i : ℕ) → RawProp × ℕ → Type 0
  AbtIs room i y = IsProp symbols room g.abt y.0 i y.1

  aborts_read : (room i : ℕ) (x y : RawProp × ℕ) → LowIs room i x → aborts_from symbols room x ≡ Some y → AbtIs room i y
  unfolding aborts_from abort_with
  aborts_read room i x y p e =
      loop_reads (goes_at symbols symbol.Abort) (abort_with symbols room) (AbtIs room i)
      (λ a b more pa step. bound (bool_in symbols room false (a.1 + 1)) (λ e. Some (abort a.0 e.0, e.1)) b step
      λ r e1 e2. given (AbtIs room i) e2 (g.abt_abort pa (at a.1 symbol.Abort more)
      (bool_read symbols room false (a.1 + 1) r e1)))
      (suc (length symbols)) x y (g.abt_low p) e

  pub settled_read : (room i : ℕ) (x y : RawProp × ℕ) → HdlIs room g.either 9 x.0 i x.1 → settled symbols room x
      ≡ Some y → AbtIs room i y
  unfolding settled
  settled_read room i x y p e =
      bound _ _ y e λ a e1 e2. bound _ _ y e2
      λ b e3 e4. aborts_read room i b y (times_read room a.0 i a.1 b (branches_read room x.0 i x.1 a p e1) e3) e4

  -- ---- an inversion: a bool is an expression

  pub bool_from : {room : ℕ} {phrase : Phrase} {e : RawExpr} {i j : ℕ} → IsProp symbols room phrase (bool e) i j
      → IsExpr symbols room 10 e i j
  bool_from (g.parens a p nb c) = absurd (cc)
  bool_from (g.factor_bool p) = looser (looser (looser p))
  bool_from (g.factor_primary p) = bool_from p
  bool_from (g.both_bool p) = looser (looser p)
  bool_from (g.both_factor p) = bool_from p
  bool_from (g.either_bool p) = looser p
  bool_from (g.either_both p) = bool_from p
  bool_from (g.hdl_bool p) = p
  bool_from (g.hdl_either p) = bool_from p
  bool_from (g.low_hdl p) = bool_from p
  bool_from (g.abt_low p) = bool_from p
  bool_from (g.occ_abt p) = bool_from p
  bool_from (g.untl_occ p) = bool_from p
  bool_from (g.suff_untl p) = bool_from p
  bool_from (g.impl_suff p) = bool_from p
  bool_from (g.prop_impl p) = bool_from p

  closed_at : (j : ℕ) → At symbols j symbol.CloseParenthesis → is_at symbols (j + 1 - 1) symbol.CloseParenthesis ≡ true
  closed_at j a =
      let same : j ≡ j + 1 - 1 = omega arith in
      subst (λ (n : ℕ). is_at symbols n symbol.CloseParenthesis ≡ true) same
      (is_self (symbol_at symbols j) symbol.CloseParenthesis a)

  -- what isn't in parentheses is a sequence itself
  pub seq_from : {room : ℕ} {phrase : Phrase} {s : RawSere} {i j : ℕ} → IsProp symbols room phrase (seq s false) i j
      → is_at symbols (j - 1) symbol.CloseParenthesis ≡ false → IsSeq symbols room s i j
  seq_from (g.parens {j = j} a p nb c) h = absurd (let z = sym h ∙ closed_at j c in cc)
  seq_from (g.weak p) h = seres.tight p
  seq_from (g.factor_primary p) h = seq_from p h
  seq_from (g.both_factor p) h = seq_from p h
  seq_from (g.either_both p) h = seq_from p h
  seq_from (g.hdl_either p) h = seq_from p h
  seq_from (g.low_timed p) h = seres.IsSeq.timed p
  seq_from (g.low_hdl p) h = seq_from p h
  seq_from (g.abt_low p) h = seq_from p h
  seq_from (g.occ_abt p) h = seq_from p h
  seq_from (g.untl_occ p) h = seq_from p h
  seq_from (g.suff_untl p) h = seq_from p h
  seq_from (g.impl_suff p) h = seq_from p h
  seq_from (g.prop_impl p) h = seq_from p h
