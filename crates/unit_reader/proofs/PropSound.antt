-- What is read as a phrase of properties is one, in any room.
use Rattle.std.proofs.Common.{◌≡◌, ℕ, zero, suc, ◌+◌, ◌-◌, false, IsTrue, Some, None, List, length, refl}
use Rattle.psl_grammar.specs.declared.symbols.Symbol.{Symbol}
use Rattle.psl_grammar.specs.declared.symbols.Symbol.TheVariants as symbol
use Rattle.psl_grammar.specs.Symbols.{symbol_at, At, begins_sequence, is_prefix}
use Rattle.psl_grammar.specs.RawSere.{RawSere}
use Rattle.psl_grammar.specs.RawProp.{RawProp, bool, seq, next, suffix}
use Rattle.psl_grammar.specs.ExprGrammar.{parens, prefixed}
use Rattle.psl_grammar.specs.SereGrammar.{IsSere}
use Rattle.psl_grammar.specs.PropGrammar.{Phrase, IsProp}
use Rattle.psl_grammar.specs.PropGrammar as g
use Rattle.unit_reader.specs.inner.Steps.{◌>>=◌, need, either_way, is_at}
use Rattle.unit_reader.specs.inner.ExprReaders.{operand_in}
use Rattle.unit_reader.specs.inner.SereReaders.{tight_in}
use Rattle.unit_reader.specs.inner.FormReaders.{form_in}
use Rattle.unit_reader.specs.inner.PropReaders.{negation, as_bool, prefixed as prefix_read, joined as joined_read}
use Rattle.unit_reader.specs.inner.PropReaders.{combined, marked, tighter_of, goes_at, negation_with, paren_prop_with}
use Rattle.unit_reader.specs.inner.PropReaders.{atom_with, factor_with, and_with, both_with, or_with, either_with}
use Rattle.unit_reader.specs.inner.PropReaders.{abt_with, eventually_with, next_with, occ_with, until_with, untl_with}
use Rattle.unit_reader.specs.inner.PropReaders.{suffix_of, suffix_with, suff_with, implied_with, impl_with, always_with}
use Rattle.unit_reader.specs.inner.PropReaders.{prop_with, phrase_with, prop_at}
use Rattle.unit_reader.proofs.SymbolTests.{bound, needed, one_way, given, loop_reads}
use Rattle.unit_reader.proofs.ExprReads.{operand_is}
use Rattle.unit_reader.proofs.SereReads.{tight_is}
use Rattle.unit_reader.proofs.PropReads.{at, HdlIs, tighter_read, factor_both, both_either, and_case, or_case}
use Rattle.unit_reader.proofs.PropReads.{settled_read, form_read, bool_from, seq_from}

module _ (symbols : List Symbol) where
  abbrev InnerIs : (room : ℕ) (phrase : Phrase) → RawProp → (i j : ℕ) → Type 0
  InnerIs room g.primary p i j = HdlIs symbols room g.primary 0 p i j
  InnerIs room phrase p i j = IsProp symbols room phrase p i j

  -- a phrase in one more open phrase
  abbrev Opened : (room : ℕ) (phrase : Phrase) (i : ℕ) → RawProp × ℕ → Type 0
  Opened zero phrase i y = ⊥
  Opened (suc r) phrase i y = InnerIs r phrase y.0 i y.1

  Sound : (room : ℕ) → Type 0
  Sound room = (phrase : Phrase) (i : ℕ) (y : RawProp × ℕ) → prop_at symbols room phrase i ≡ Some y
      → Opened room phrase i y

  abbrev Is : (room : ℕ) (phrase : Phrase) (i : ℕ) → RawProp × ℕ → Type 0
  Is room phrase i y = IsProp symbols room phrase y.0 i y.1

  abbrev Hdl : (room : ℕ) (phrase : Phrase) (level i : ℕ) → RawProp × ℕ → Type 0
  Hdl room phrase level i y = HdlIs symbols room phrase level y.0 i y.1

  negated_case : (r : ℕ) (p : RawProp) (i j : ℕ) → At symbols i symbol.Exclamation
      → HdlIs symbols r g.primary 0 p (i + 1) j
      → HdlIs symbols (suc r) g.primary 0 (negation i p) i j
  negated_case r (bool e) i j a h = prefixed (let b : IsTrue (is_prefix (symbol_at symbols i)) = rw a refl in b) h
  negated_case r p i j a h = g.negated a h

  paren_case : (r : ℕ) (p : RawProp) (i j : ℕ) → At symbols i symbol.OpenParenthesis → IsProp symbols r g.prop p (i + 1)
      j → At symbols j symbol.CloseParenthesis
      → HdlIs symbols (suc r) g.primary 0 p i (j + 1)
  paren_case r (bool e) i j a h c = parens a (bool_from symbols h) c
  paren_case r p i j a h c = g.parens a h refl c

  negation_read : (room : ℕ) → Sound room → (i : ℕ) (y : RawProp × ℕ) → At symbols i symbol.Exclamation
      → negation_with symbols (prop_at symbols room) room i ≡ Some y → Hdl room g.primary 0 i y
  unfolding negation_with Sound
  negation_read zero s i y a e = bound (prop_at symbols zero g.primary (i + 1)) (λ p. Some (negation i p.0, p.1)) y e λ
      x e1 e2. absurd (s g.primary (i + 1) x e1)
  negation_read (suc r) s i y a e =
      bound (prop_at symbols (suc r) g.primary (i + 1)) (λ p. Some (negation i p.0, p.1)) y e
      λ x e1 e2. given (Hdl (suc r) g.primary 0 i) e2 (negated_case r x.0 i x.1 a (s g.primary (i + 1) x e1))

  paren_read : (room : ℕ) → Sound room → (i : ℕ) (y : RawProp × ℕ) → At symbols i symbol.OpenParenthesis
      → paren_prop_with symbols (prop_at symbols room) room i ≡ Some y → Hdl room g.primary 0 i y
  unfolding paren_prop_with Sound
  paren_read zero s i y a e = bound (prop_at symbols zero g.prop (i + 1))
      (λ p. need (is_at symbols p.1 symbol.CloseParenthesis) (Some (p.0, p.1 + 1))) y e λ x e1 e2. absurd
      (s g.prop (i + 1) x e1)
  paren_read (suc r) s i y a e =
      bound (prop_at symbols (suc r) g.prop (i + 1)) (λ p. need (is_at symbols p.1 symbol.CloseParenthesis)
      (Some (p.0, p.1 + 1))) y e
      λ x e1 e2. needed _ _ y e2
      λ h e3. given (Hdl (suc r) g.primary 0 i) e3 (paren_case r x.0 i x.1 a (s g.prop (i + 1) x e1)
      (at symbols x.1 symbol.CloseParenthesis h))

  marked_read : (room i : ℕ) (s : RawSere × ℕ) (y : RawProp × ℕ) → IsSere symbols room 0 s.0 i s.1 → marked symbols s
      ≡ Some y → Hdl room g.primary 0 i y
  unfolding marked
  marked_read room i s y p e =
      one_way _ _ _ y e (λ h e1. given (Hdl room g.primary 0 i) e1 (g.strong p (at symbols s.1 symbol.Exclamation h)))
      λ _ e1. given (Hdl room g.primary 0 i) e1 (g.weak p)

  module _ (room : ℕ) (s : Sound room) where
    atom_read : (i : ℕ) (y : RawProp × ℕ) → atom_with symbols (prop_at symbols room) room i ≡ Some y
        → Hdl room g.primary 0 i y
    unfolding atom_with
    atom_read i y e =
        one_way _ _ _ y e (λ h e1. negation_read room s i y (at symbols i symbol.Exclamation h) e1)
        λ _ e1. one_way _ _ _ y e1 (λ h e2. paren_read room s i y (at symbols i symbol.OpenParenthesis h) e2)
        λ _ e2. one_way _ _ _ y e2 (λ h e3. given (Hdl room g.primary 0 i) e3
        (g.named (at symbols i symbol.PropertyName h)))
        λ _ e3. one_way (begins_sequence (symbol_at symbols i)) (tight_in symbols room i >>= marked symbols)
        (operand_in symbols room i >>= as_bool) y e3
        (λ _ e4. bound _ _ y e4 λ x e5 e6. marked_read room i x y (tight_is symbols room i x e5) e6)
        λ _ e4. bound (operand_in symbols room i) as_bool y e4 λ x e5 e6. given (Hdl room g.primary 0 i) e6
        (operand_is symbols room i x e5)

    factor_read : (i : ℕ) (y : RawProp × ℕ) → factor_with symbols (prop_at symbols room) room i ≡ Some y
        → Hdl room g.factor 7 i y
    unfolding factor_with
    factor_read i y e =
        bound (atom_with symbols (prop_at symbols room) room i) (λ p. tighter_of symbols room p.0 p.1) y e
        λ x e1 e2. tighter_read symbols room x.0 i x.1 y (atom_read i x e1) e2

    both_read : (i : ℕ) (y : RawProp × ℕ) → both_with symbols (prop_at symbols room) room i ≡ Some y
        → Hdl room g.both 8 i y
    unfolding both_with and_with
    both_read i y e =
        bound _ _ y e
        λ x e1 e2. loop_reads (goes_at symbols symbol.AndAnd) (and_with symbols (prop_at symbols room) room)
        (Hdl room g.both 8 i)
        (λ a b more pa step. bound (factor_with symbols (prop_at symbols room) room (a.1 + 1)) (combined a) b step
        λ r e3 e4. given (Hdl room g.both 8 i) e4 (and_case symbols room a.0 r.0 i a.1 r.1 pa
        (at symbols a.1 symbol.AndAnd more) (factor_read (a.1 + 1) r e3)))
        (suc (length symbols)) x y (factor_both symbols room x.0 i x.1 (factor_read i x e1)) e2

    either_read : (i : ℕ) (y : RawProp × ℕ) → either_with symbols (prop_at symbols room) room i ≡ Some y
        → Hdl room g.either 9 i y
    unfolding either_with or_with
    either_read i y e =
        bound _ _ y e
        λ x e1 e2. loop_reads (goes_at symbols symbol.OrOr) (or_with symbols (prop_at symbols room) room)
        (Hdl room g.either 9 i)
        (λ a b more pa step. bound (both_with symbols (prop_at symbols room) room (a.1 + 1)) (combined a) b step
        λ r e3 e4. given (Hdl room g.either 9 i) e4 (or_case symbols room a.0 r.0 i a.1 r.1 pa
        (at symbols a.1 symbol.OrOr more) (both_read (a.1 + 1) r e3)))
        (suc (length symbols)) x y (both_either symbols room x.0 i x.1 (both_read i x e1)) e2

    abt_read : (i : ℕ) (y : RawProp × ℕ) → abt_with symbols (prop_at symbols room) room i ≡ Some y → Is room g.abt i y
    unfolding abt_with
    abt_read i y e = bound _ _ y e λ x e1 e2. settled_read symbols room i x y (either_read i x e1) e2

  eventually_read : (room : ℕ) → Sound room → (i : ℕ) (y : RawProp × ℕ) → At symbols i symbol.EventuallyStrong
      → eventually_with symbols (prop_at symbols room) room i ≡ Some y → Is room g.occ i y
  unfolding eventually_with Sound
  eventually_read zero s i y a e = bound (prop_at symbols zero g.occ (i + 1)) (prefix_read i) y e λ x e1 e2. absurd
      (s g.occ (i + 1) x e1)
  eventually_read (suc r) s i y a e =
      bound (prop_at symbols (suc r) g.occ (i + 1)) (prefix_read i) y e
      λ x e1 e2. given (Is (suc r) g.occ i) e2 (g.occ_eventually a (s g.occ (i + 1) x e1))

  next_read : (room : ℕ) → Sound room → (i : ℕ) (y : RawProp × ℕ) → next_with symbols (prop_at symbols room) room i
      ≡ Some y → Is room g.occ i y
  unfolding next_with Sound
  next_read zero s i y e =
      bound (form_in symbols zero i) (λ f. prop_at symbols zero g.occ f.1 >>=
      λ p. Some (next i f.0.0 f.0.1 f.0.2 p.0, p.1)) y e
      λ f e1 e2. bound (prop_at symbols zero g.occ f.1) (λ p. Some (next i f.0.0 f.0.1 f.0.2 p.0, p.1)) y e2 λ x e3 e4.
      absurd (s g.occ f.1 x e3)
  next_read (suc r) s i y e =
      bound (form_in symbols (suc r) i) (λ f. prop_at symbols (suc r) g.occ f.1 >>=
      λ p. Some (next i f.0.0 f.0.1 f.0.2 p.0, p.1)) y e
      λ f e1 e2. bound (prop_at symbols (suc r) g.occ f.1) (λ p. Some (next i f.0.0 f.0.1 f.0.2 p.0, p.1)) y e2
      λ x e3 e4. given (Is (suc r) g.occ i) e4 (g.occ_next (form_read symbols (suc r) i f e1) (s g.occ f.1 x e3))

  occ_read : (room : ℕ) → Sound room → (i : ℕ) (y : RawProp × ℕ) → occ_with symbols (prop_at symbols room) room i
      ≡ Some y → Is room g.occ i y
  unfolding occ_with
  occ_read room s i y e =
      one_way _ _ _ y e (λ h e1. eventually_read room s i y (at symbols i symbol.EventuallyStrong h) e1)
      λ _ e1. one_way _ _ _ y e1 (λ _ e2. next_read room s i y e2) λ _ e2. g.occ_abt (abt_read room s i y e2)

  untl_read : (room : ℕ) → Sound room → (i : ℕ) (y : RawProp × ℕ) → untl_with symbols (prop_at symbols room) room i
      ≡ Some y → Is room g.untl i y
  unfolding untl_with until_with
  untl_read room s i y e =
      bound _ _ y e
      λ l e1 e2. one_way (is_at symbols l.1 symbol.Until) (occ_with symbols (prop_at symbols room) room (l.1 + 1) >>=
      joined_read l) (Some l) y e2
      (λ h e3. bound (occ_with symbols (prop_at symbols room) room (l.1 + 1)) (joined_read l) y e3
      λ r e4 e5. given (Is room g.untl i) e5 (g.untl_until (occ_read room s i l e1) (at symbols l.1 symbol.Until h)
      (occ_read room s (l.1 + 1) r e4)))
      λ _ e3. given (Is room g.untl i) e3 (g.untl_occ (occ_read room s i l e1))

  suffix_read : (room : ℕ) → Sound room → (p : RawProp) (i m : ℕ) (y : RawProp × ℕ) → IsProp symbols room g.untl p i m
      → At symbols m symbol.Suffix
      → is_at symbols (m - 1) symbol.CloseParenthesis ≡ false → suffix_of symbols (prop_at symbols room) room p m
      ≡ Some y → Is room g.suff i y
  unfolding suffix_of Sound
  suffix_read zero s (seq r false) i m y l a h e =
      bound (prop_at symbols zero g.suff (m + 1)) (λ p. Some (suffix m r p.0, p.1)) y e λ x e1 e2. absurd
      (s g.suff (m + 1) x e1)
  suffix_read (suc n) s (seq r false) i m y l a h e =
      bound (prop_at symbols (suc n) g.suff (m + 1)) (λ p. Some (suffix m r p.0, p.1)) y e
      λ x e1 e2. given (Is (suc n) g.suff i) e2 (g.suff_suffix (seq_from symbols l h) a (s g.suff (m + 1) x e1))
  suffix_read room s p i m y l a h e = absurd (cc)

  suff_read : (room : ℕ) → Sound room → (i : ℕ) (y : RawProp × ℕ) → suff_with symbols (prop_at symbols room) room i
      ≡ Some y → Is room g.suff i y
  unfolding suff_with suffix_with
  suff_read room s i y e =
      bound _ _ y e
      λ l e1 e2. one_way (is_at symbols l.1 symbol.Suffix) (either_way (is_at symbols (l.1 - 1) symbol.CloseParenthesis)
      None (suffix_of symbols (prop_at symbols room) room l.0 l.1)) (Some l) y e2
      (λ h e3. one_way (is_at symbols (l.1 - 1) symbol.CloseParenthesis) None
      (suffix_of symbols (prop_at symbols room) room l.0 l.1) y e3
      (λ _ e4. absurd (cc))
      λ no_close e4. suffix_read room s l.0 i l.1 y (untl_read room s i l e1) (at symbols l.1 symbol.Suffix h) no_close
      e4)
      λ _ e3. given (Is room g.suff i) e3 (g.suff_untl (untl_read room s i l e1))

  implies_read : (room : ℕ) → Sound room → (i : ℕ) (l y : RawProp × ℕ) → Is room g.suff i l
      → At symbols l.1 symbol.Arrow
      → (prop_at symbols room g.impl (l.1 + 1) >>= joined_read l) ≡ Some y → Is room g.impl i y
  unfolding Sound
  implies_read zero s i l y p a e = bound (prop_at symbols zero g.impl (l.1 + 1)) (joined_read l) y e λ x e1 e2. absurd
      (s g.impl (l.1 + 1) x e1)
  implies_read (suc r) s i l y p a e =
      bound (prop_at symbols (suc r) g.impl (l.1 + 1)) (joined_read l) y e
      λ x e1 e2. given (Is (suc r) g.impl i) e2 (g.impl_implies p a (s g.impl (l.1 + 1) x e1))

  impl_read : (room : ℕ) → Sound room → (i : ℕ) (y : RawProp × ℕ) → impl_with symbols (prop_at symbols room) room i
      ≡ Some y → Is room g.impl i y
  unfolding impl_with implied_with
  impl_read room s i y e =
      bound _ _ y e
      λ l e1 e2. one_way (is_at symbols l.1 symbol.Arrow) (prop_at symbols room g.impl (l.1 + 1) >>= joined_read l)
      (either_way (is_at symbols l.1 symbol.DoubleArrow) (suff_with symbols (prop_at symbols room) room (l.1 + 1) >>=
      joined_read l) (Some l)) y e2
      (λ h e3. implies_read room s i l y (suff_read room s i l e1) (at symbols l.1 symbol.Arrow h) e3)
      λ _ e3. one_way (is_at symbols l.1 symbol.DoubleArrow) (suff_with symbols (prop_at symbols room) room (l.1 + 1)
      >>= joined_read l) (Some l) y e3
      (λ h e4. bound (suff_with symbols (prop_at symbols room) room (l.1 + 1)) (joined_read l) y e4
      λ r e5 e6. given (Is room g.impl i) e6 (g.impl_iff (suff_read room s i l e1) (at symbols l.1 symbol.DoubleArrow h)
      (suff_read room s (l.1 + 1) r e5)))
      λ _ e4. given (Is room g.impl i) e4 (g.impl_suff (suff_read room s i l e1))

  always_read : (room : ℕ) → Sound room → (i : ℕ) (y : RawProp × ℕ) → At symbols i symbol.Always
      → always_with symbols (prop_at symbols room) room i ≡ Some y → Is room g.prop i y
  unfolding always_with Sound
  always_read zero s i y a e = bound (prop_at symbols zero g.prop (i + 1)) (prefix_read i) y e λ x e1 e2. absurd
      (s g.prop (i + 1) x e1)
  always_read (suc r) s i y a e =
      bound (prop_at symbols (suc r) g.prop (i + 1)) (prefix_read i) y e
      λ x e1 e2. given (Is (suc r) g.prop i) e2 (g.prop_always a (s g.prop (i + 1) x e1))

  prop_read : (room : ℕ) → Sound room → (i : ℕ) (y : RawProp × ℕ) → prop_with symbols (prop_at symbols room) room i
      ≡ Some y → Is room g.prop i y
  unfolding prop_with
  prop_read room s i y e =
      one_way _ _ _ y e (λ h e1. always_read room s i y (at symbols i symbol.Always h) e1) λ _ e1. g.prop_impl
      (impl_read room s i y e1)

  phrase_read : (room : ℕ) → Sound room → (phrase : Phrase) (i : ℕ) (y : RawProp × ℕ)
      → phrase_with symbols (prop_at symbols room) room phrase i ≡ Some y → InnerIs room phrase y.0 i y.1
  unfolding phrase_with
  phrase_read room s g.primary i y e = atom_read room s i y e
  phrase_read room s g.occ i y e = occ_read room s i y e
  phrase_read room s g.suff i y e = suff_read room s i y e
  phrase_read room s g.impl i y e = impl_read room s i y e
  phrase_read room s g.prop i y e = prop_read room s i y e
  phrase_read room s _ i y e = absurd (cc)

  sound : (room : ℕ) → Sound room
  unfolding Sound prop_at
  sound zero phrase i y e = absurd (cc)
  sound (suc r) phrase i y e = phrase_read r (sound r) phrase i y e

  pub prop_is : (room i : ℕ) (y : RawProp × ℕ) → prop_with symbols (prop_at symbols room) room i ≡ Some y
      → IsProp symbols room g.prop y.0 i y.1
  prop_is room i y e = prop_read room (sound room) i y e
