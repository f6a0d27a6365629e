-- What is read is a repetition, or a sequence.
use Rattle.std.proofs.Common.{◌≡◌, ℕ, zero, suc, ◌+◌, ◌<◌, Bool, true, IsTrue, Option, Some, List, length, refl, sym}
use Rattle.std.proofs.Common.{subst, arith}
use Rattle.std.proofs.lemmas.Bool.{eqb-true}
use Rattle.std.proofs.lemmas.Bool.Decides.{nat_tests}
use Rattle.std.specs.Prelude.{nat_lt}
use Rattle.psl_grammar.specs.declared.sequences.RawRep.{RawRep}
use Rattle.psl_grammar.specs.declared.symbols.Symbol.{Symbol}
use Rattle.psl_grammar.specs.declared.symbols.Symbol.TheVariants as symbol
use Rattle.psl_grammar.specs.Symbols.{symbol_at, At, level_at, is_pick, sere_level}
use Rattle.psl_grammar.specs.RawExpr.{RawExpr}
use Rattle.psl_grammar.specs.RawSere.{RawSere, bool, lone, repeat, join}
use Rattle.psl_grammar.specs.ExprGrammar.{IsBool, Ends}
use Rattle.psl_grammar.specs.SereGrammar.{IsCounts, single, range, IsTimes, any, some, IsPick, first, IsTimed, once}
use Rattle.psl_grammar.specs.SereGrammar.{picked, IsSere, braces, name, alone, timed, joins, looser}
use Rattle.psl_grammar.specs.SereGrammar as grammar
use Rattle.unit_reader.specs.inner.Steps.{◌>>=◌, is_at}
use Rattle.unit_reader.specs.inner.ExprReaders.{bool_in}
use Rattle.unit_reader.specs.inner.SereReaders.{rep, repeated, range_end_at, counts_at, counted_at, times_at, pick_at}
use Rattle.unit_reader.specs.inner.SereReaders.{times_go, again_with, times_from, after_bool, timed_in, braces_with}
use Rattle.unit_reader.specs.inner.SereReaders.{lone_at, base_with, tight_with, elem_with, sere_joins, sere_join_with}
use Rattle.unit_reader.specs.inner.SereReaders.{levels_above, cat_at, elem_in, tight_in}
use Rattle.unit_reader.proofs.SymbolTests.{is_same, bound, needed, one_way, given, loop_reads}
use Rattle.unit_reader.proofs.ExprReads.{choice_is}

module _ (symbols : List Symbol) where
  at : (i : ℕ) (s : Symbol) → is_at symbols i s ≡ true → At symbols i s
  at i s h = is_same (symbol_at symbols i) s h

  Counts : (i : ℕ) → Option ℕ × ℕ → Type 0
  Counts i y = IsCounts symbols y.0 i y.1

  counts_read : (i : ℕ) (y : Option ℕ × ℕ) → counts_at symbols i ≡ Some y → Counts i y
  unfolding counts_at range_end_at Counts
  counts_read i y e =
      needed _ _ y e λ h e1. one_way _ _ _ y e1
      (λ h1 e2. given (Counts i) e2 (single (at i symbol.Number h) (at (i + 1) symbol.CloseBracket h1)))
      λ _ e2. needed _ _ y e2 λ h2 e3. needed _ _ y e3 λ h3 e4. needed _ _ y e4
      λ h4 e5. given (Counts i) e5 (range (at i symbol.Number h) (at (i + 1) symbol.Colon h2) h3
      (at (i + 3) symbol.CloseBracket h4))

  -- a repetition with its mark
  pub record Times (i : ℕ) (y : RawRep × ℕ) : Type 0 where
    pub marked : y.0.mark ≡ i
    pub phrase : IsTimes symbols y.0.low y.0.high i y.1

  pub record Pick (i : ℕ) (y : RawRep × ℕ) : Type 0 where
    pub marked : y.0.mark ≡ i
    pub phrase : IsPick symbols y.0.low y.0.high i y.1

  pub times_read : (i : ℕ) (y : RawRep × ℕ) → times_at symbols i ≡ Some y → Times i y
  unfolding times_at counted_at Counts
  times_read i y e =
      one_way _ _ _ y e (λ h e1. given (Times i) e1 (record {
        marked = refl;
        phrase = some (at i symbol.RepeatPlus h);
      }))
      λ _ e1. needed _ _ y e1 λ h e2. one_way _ _ _ y e2
      (λ h1 e3. given (Times i) e3 (record {
        marked = refl;
        phrase = any (at i symbol.RepeatOpen h)
            (at (i + 1) symbol.CloseBracket h1);
      }))
      λ _ e3. bound (counts_at symbols (i + 1)) (λ c. Some (rep i (Some (i + 1)) c.0, c.1)) y e3
      λ c e4 e5. given (Times i) e5 (record {
        marked = refl;
        phrase = grammar.IsTimes.counted (at i symbol.RepeatOpen h)
            (counts_read (i + 1) c e4);
      })

  pub pick_read : (i : ℕ) (y : RawRep × ℕ) → IsTrue (is_pick (symbol_at symbols i)) → pick_at symbols i ≡ Some y
      → Pick i y
  unfolding pick_at counted_at Counts
  pick_read i y p e =
      one_way _ _ _ y e
      (λ h e1. needed _ _ y e1 λ h1 e2. given (Pick i) e2 (record {
        marked = refl;
        phrase =
            first (at i symbol.GotoOpen h1) (at (i + 1) symbol.CloseBracket h);
      }))
      λ _ e1. bound (counts_at symbols (i + 1)) (λ c. Some (rep i (Some (i + 1)) c.0, c.1)) y e1
      λ c e2 e3. given (Pick i) e3 (record {
        marked = refl;
        phrase = grammar.IsPick.counted p (counts_read (i + 1) c e2);
      })

  pub Sere : (room level i : ℕ) → RawSere × ℕ → Type 0
  Sere room level i y = IsSere symbols room level y.0 i y.1

  pub Timed : (room : ℕ) (braced : Bool) (i : ℕ) → RawSere × ℕ → Type 0
  Timed room braced i y = IsTimed symbols room braced y.0 i y.1

  sere_again : (room i : ℕ) (s : RawSere × ℕ) (r : RawRep × ℕ) → Sere room 0 i s → Times s.1 r
      → Sere room 0 i (repeated s.0 r.0, r.1)
  unfolding Sere
  sere_again room i s r p t =
      subst (λ (m : ℕ). IsSere symbols room 0 (repeat s.0 m r.0.low r.0.high) i r.1) (sym t.marked)
      (grammar.IsSere.again p t.phrase)

  timed_again : (room : ℕ) (braced : Bool) (i : ℕ) (s : RawSere × ℕ) (r : RawRep × ℕ) → Timed room braced i s
      → Times s.1 r
      → Timed room braced i (repeated s.0 r.0, r.1)
  unfolding Timed
  timed_again room braced i s r p t =
      subst (λ (m : ℕ). IsTimed symbols room braced (repeat s.0 m r.0.low r.0.high) i r.1) (sym t.marked)
      (grammar.IsTimed.again p t.phrase)

  timed_picked : (room : ℕ) (braced : Bool) (i : ℕ) (e : RawExpr × ℕ) (r : RawRep × ℕ) → IsBool symbols room braced e.0
      i e.1 → Pick e.1 r
      → Timed room braced i (repeated (bool e.0) r.0, r.1)
  unfolding Timed
  timed_picked room braced i e r p t =
      subst (λ (m : ℕ). IsTimed symbols room braced (repeat (bool e.0) m r.0.low r.0.high) i r.1) (sym t.marked)
      (picked p t.phrase)

  times_from_sere : (room i : ℕ) (s y : RawSere × ℕ) → Sere room 0 i s → times_from symbols s ≡ Some y → Sere room 0 i y
  unfolding times_from again_with
  times_from_sere room i s y p e =
      loop_reads (times_go symbols) (again_with symbols) (Sere room 0 i)
      (λ a b more pa step. bound (times_at symbols a.1) (λ r. Some (repeated a.0 r.0, r.1)) b step
      λ r e1 e2. given (Sere room 0 i) e2 (sere_again room i a r pa (times_read a.1 r e1)))
      (suc (length symbols)) s y p e

  times_from_timed : (room : ℕ) (braced : Bool) (i : ℕ) (s y : RawSere × ℕ) → Timed room braced i s
      → times_from symbols s ≡ Some y
      → Timed room braced i y
  unfolding times_from again_with
  times_from_timed room braced i s y p e =
      loop_reads (times_go symbols) (again_with symbols) (Timed room braced i)
      (λ a b more pa step. bound (times_at symbols a.1) (λ r. Some (repeated a.0 r.0, r.1)) b step
      λ r e1 e2. given (Timed room braced i) e2 (timed_again room braced i a r pa (times_read a.1 r e1)))
      (suc (length symbols)) s y p e

  above_ten : (braced : Bool) (j : ℕ) → nat_lt 10 (level_at braced symbols j) ≡ true → Ends symbols braced 10 j
  above_ten braced j h = grind (arith, nat_tests)

  pub bool_read : (room : ℕ) (braced : Bool) (i : ℕ) (y : RawExpr × ℕ) → bool_in symbols room braced i ≡ Some y
      → IsBool symbols room braced y.0 i y.1
  unfolding bool_in
  bool_read room braced i y e =
      bound _ _ y e λ x e1 e2. needed _ _ y e2
      λ h e3. given (λ (z : RawExpr × ℕ). IsBool symbols room braced z.0 i z.1) e3
      (choice_is symbols room braced i x e1, above_ten braced x.1 h)

  pub after_read : (room : ℕ) (braced : Bool) (i : ℕ) (e : RawExpr × ℕ) (y : RawSere × ℕ)
      → IsBool symbols room braced e.0 i e.1
      → after_bool symbols e ≡ Some y → IsTimed symbols room braced y.0 i y.1
  unfolding after_bool Timed
  after_read room braced i e y p given_y =
      one_way (is_pick (symbol_at symbols e.1)) (pick_at symbols e.1 >>=
      λ r. times_from symbols (repeated (bool e.0) r.0, r.1)) (times_from symbols (bool e.0, e.1)) y given_y
      (λ h e1. bound (pick_at symbols e.1) (λ r. times_from symbols (repeated (bool e.0) r.0, r.1)) y e1
      λ r e2 e3. times_from_timed room braced i (repeated (bool e.0) r.0, r.1) y
      (timed_picked room braced i e r p (pick_read e.1 r h e2)) e3)
      (λ h e1. times_from_timed room braced i (bool e.0, e.1) y (once p) e1)

  pub timed_read : (room : ℕ) (braced : Bool) (i : ℕ) (y : RawSere × ℕ) → timed_in symbols room braced i ≡ Some y
      → IsTimed symbols room braced y.0 i y.1
  unfolding timed_in
  timed_read room braced i y e = bound _ _ y e λ x e1 e2. after_read room braced i x y (bool_read room braced i x e1) e2

  -- a sequence in one more open phrase
  pub Opened : (room i : ℕ) → RawSere × ℕ → Type 0
  Opened zero i y = ⊥
  Opened (suc r) i y = Sere r 6 i y

  braces_read : (room i : ℕ) (y : RawSere × ℕ) → ((n : ℕ) (x : RawSere × ℕ) → cat_at symbols room n ≡ Some x
      → Opened room n x)
      → At symbols i symbol.OpenBrace → braces_with symbols (cat_at symbols room) i ≡ Some y → Sere room 0 i y
  unfolding braces_with Opened Sere
  braces_read zero i y cat a e = bound _ _ y e λ x e1 e2. absurd (cat (i + 1) x e1)
  braces_read (suc r) i y cat a e =
      bound _ _ y e λ x e1 e2. needed _ _ y e2
      λ h e3. given (Sere (suc r) 0 i) e3 (braces a (cat (i + 1) x e1) (at x.1 symbol.CloseBrace h))

  lone_read : (room i : ℕ) (y : RawSere × ℕ) → lone_at symbols i ≡ Some y → Sere room 0 i y
  unfolding lone_at Sere
  lone_read room i y e =
      bound (times_at symbols i) (λ r. Some (lone r.0.mark r.0.low r.0.high, r.1)) y e
      λ r e1 e2. given (Sere room 0 i) e2
      (let t = times_read i r e1 in subst (λ (m : ℕ). IsSere symbols room 0 (lone m r.0.low r.0.high) i r.1)
      (sym t.marked) (alone t.phrase))

  tight_read : (room i : ℕ) (y : RawSere × ℕ) → ((n : ℕ) (x : RawSere × ℕ) → cat_at symbols room n ≡ Some x
      → Opened room n x)
      → tight_in symbols room i ≡ Some y → Sere room 0 i y
  unfolding tight_with base_with Sere
  tight_read room i y cat e =
      bound _ _ y e
      λ x e1 e2. times_from_sere room i x y
      (one_way _ _ _ x e1 (λ h e3. braces_read room i x cat (at i symbol.OpenBrace h) e3)
      λ _ e3. one_way _ _ _ x e3 (λ h e4. given (Sere room 0 i) e4 (name (at i symbol.SequenceName h)))
      λ _ e4. lone_read room i x e4) e2

  elem_read : (room i : ℕ) (y : RawSere × ℕ) → ((n : ℕ) (x : RawSere × ℕ) → cat_at symbols room n ≡ Some x
      → Opened room n x)
      → elem_in symbols room i ≡ Some y → Sere room 1 i y
  unfolding elem_with Sere
  elem_read room i y cat e =
      one_way _ _ _ y e (λ _ e1. looser (tight_read room i y cat e1)) λ _ e1. timed (timed_read room true i y e1)

  above_read : (room : ℕ) → ((n : ℕ) (x : RawSere × ℕ) → cat_at symbols room n ≡ Some x → Opened room n x)
      → (k i : ℕ) (y : RawSere × ℕ) → k < 6 → levels_above symbols (elem_in symbols room) k i ≡ Some y
      → Sere room (suc k) i y
  unfolding levels_above sere_join_with Sere
  above_read room cat zero i y lt e = elem_read room i y cat e
  above_read room cat (suc k) i y lt e =
      bound _ _ y e
      λ x e1 e2. loop_reads (sere_joins symbols (suc (suc k)))
      (sere_join_with symbols (levels_above symbols (elem_in symbols room) k)) (Sere room (suc (suc k)) i)
      (λ a b more pa step. bound (levels_above symbols (elem_in symbols room) k (a.1 + 1))
      (λ r. Some (join a.1 a.0 r.0, r.1)) b step
      λ r e3 e4. given (Sere room (suc (suc k)) i) e4
      (joins lt pa (eqb-true (sere_level (symbol_at symbols a.1)) (suc (suc k)) more)
      (above_read room cat k (a.1 + 1) r (omega (arith, lt)) e3)))
      (suc (length symbols)) x y (looser (above_read room cat k i x (omega (arith, lt)) e1)) e2

  pub cat_read : (room n : ℕ) (x : RawSere × ℕ) → cat_at symbols room n ≡ Some x → Opened room n x
  unfolding cat_at Opened
  cat_read zero n x e = absurd (cc)
  cat_read (suc r) n x e = above_read r (cat_read r) 5 n x (omega arith) e

  pub tight_is : (room i : ℕ) (y : RawSere × ℕ) → tight_in symbols room i ≡ Some y → IsSere symbols room 0 y.0 i y.1
  unfolding Sere
  tight_is room i y e = tight_read room i y (cat_read room) e
