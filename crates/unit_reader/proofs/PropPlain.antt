-- A bool is read as a property that is one, and what is read of a phrase where nothing goes on with it.
use Rattle.std.proofs.Common.{◌≡◌, ℕ, zero, suc, ◌+◌, ◌<◌, ◌≤◌, Bool, true, false, Some, List}
use Rattle.std.proofs.Common.{length, refl, sym, ap, subst, ◌∙◌, arith, lit<, lit≤}
use Rattle.psl_grammar.specs.declared.symbols.Symbol.{Symbol}
use Rattle.psl_grammar.specs.declared.symbols.Symbol.TheVariants as symbol
use Rattle.psl_grammar.specs.Symbols.{symbol_at, At, after_level, level_at, begins_sequence}
use Rattle.psl_grammar.specs.Symbols.{is_literal, is_prefix}
use Rattle.psl_grammar.specs.RawExpr.{RawExpr, unary}
use Rattle.psl_grammar.specs.RawExpr as expr
use Rattle.psl_grammar.specs.RawProp.{RawProp, bool, abort}
use Rattle.psl_grammar.specs.ExprGrammar.{IsExpr, Ends, whole, bit, part, literally, parens, prefixed, joined, chosen}
use Rattle.psl_grammar.specs.ExprGrammar.{looser}
use Rattle.psl_grammar.specs.PropGrammar.{Phrase, is_bool}
use Rattle.psl_grammar.specs.PropGrammar as g
use Rattle.unit_reader.specs.inner.Steps.{◌>>=◌, need, is, is_at, Read, loop}
use Rattle.unit_reader.specs.inner.ExprReaders.{paren_with, prefix_with, operand_with, operand_at, choice_at}
use Rattle.unit_reader.specs.inner.ExprReaders.{operand_in, levels_with, joined_with, branches_with, bool_in}
use Rattle.unit_reader.specs.inner.PropReaders.{negation, combination, is_rep, as_bool}
use Rattle.unit_reader.specs.inner.PropReaders.{combined, tighter_of, branches_of}
use Rattle.unit_reader.specs.inner.PropReaders.{times_of, abort_with, goes_at, aborts_from, settled, negation_with}
use Rattle.unit_reader.specs.inner.PropReaders.{paren_prop_with, atom_with, factor_with, and_with, both_with, or_with}
use Rattle.unit_reader.specs.inner.PropReaders.{either_with, abt_with, occ_with, until_with}
use Rattle.unit_reader.specs.inner.PropReaders.{untl_with, suffix_with, suff_with, implied_with, impl_with}
use Rattle.unit_reader.specs.inner.PropReaders.{prop_with, phrase_with, prop_at}
use Rattle.unit_reader.proofs.SymbolTests.{is_same, is_other, bound, needed, one_way, given}
use Rattle.unit_reader.proofs.Loops.{Turns, stops, turns}
use Rattle.unit_reader.proofs.ExprReads.{choice_is}
use Rattle.unit_reader.proofs.ExprSpells.{this_way, that_way, has, then, at, not_at, level_read}
use Rattle.unit_reader.proofs.ExprSpells.{spelled as expr_spelled, choice_spelled}
use Rattle.unit_reader.proofs.ExprSpells.{inner_choice, colon_ends}
use Rattle.unit_reader.proofs.ExprFacts.{bounds, question_level}
use Rattle.unit_reader.proofs.PropFacts.{follow, follow_after, level_not, no_rep, opens_word, word_other}
use Rattle.unit_reader.proofs.PropFacts.{no_next, apart, expr_starts}

decide : {P : Type 0} (b : Bool) → (b ≡ true → P) → (b ≡ false → P) → P
decide true k l = k refl
decide false k l = l refl

module _ (symbols : List Symbol) where
  -- ---- an operand of kind B is read as one

  pub AtomFact : (room : ℕ) → Type 0
  AtomFact room = (i : ℕ) (x : RawExpr × ℕ) → operand_in symbols room i ≡ Some x
      → atom_with symbols (prop_at symbols room) room i ≡ Some (bool x.0, x.1)

  atom_operand : (room i : ℕ) (x : RawExpr × ℕ) → is_at symbols i symbol.Exclamation ≡ false
      → is_at symbols i symbol.OpenParenthesis ≡ false
      → is_at symbols i symbol.PropertyName ≡ false → begins_sequence (symbol_at symbols i) ≡ false
      → operand_in symbols room i ≡ Some x
      → atom_with symbols (prop_at symbols room) room i ≡ Some (bool x.0, x.1)
  unfolding atom_with
  atom_operand room i x a b c d e =
      that_way _ _ _ _ a (that_way _ _ _ _ b (that_way _ _ _ _ c
      (that_way _ _ _ _ d (then (operand_in symbols room i) as_bool x _ e refl))))

  atom_paren : (room i : ℕ) (x : RawExpr × ℕ) → is_at symbols i symbol.OpenParenthesis ≡ true
      → prop_at symbols room g.prop (i + 1) ≡ Some (bool x.0, x.1)
      → is_at symbols x.1 symbol.CloseParenthesis ≡ true → atom_with symbols (prop_at symbols room) room i
      ≡ Some (bool x.0, x.1 + 1)
  unfolding atom_with paren_prop_with
  atom_paren room i x a e c =
      that_way _ _ _ _ (apart symbols i symbol.OpenParenthesis symbol.Exclamation
      (is_same (symbol_at symbols i) symbol.OpenParenthesis a) (λ e. cc))
      (this_way _ _ _ _ a (then (prop_at symbols room g.prop (i + 1))
      (λ p. need (is_at symbols p.1 symbol.CloseParenthesis) (Some (p.0, p.1 + 1))) (bool x.0, x.1) _ e
      (has _ _ _ c refl)))

  pub atom_not : (room i : ℕ) (p : RawProp) (j : ℕ) → is_at symbols i symbol.Exclamation ≡ true
      → prop_at symbols room g.primary (i + 1) ≡ Some (p, j)
      → atom_with symbols (prop_at symbols room) room i ≡ Some (negation i p, j)
  unfolding atom_with negation_with
  atom_not room i p j a e =
      this_way _ _ _ _ a (then (prop_at symbols room g.primary (i + 1)) (λ p. Some (negation i p.0, p.1)) (p, j) _ e
      refl)

  literal_apart : (s t : Symbol) → is_literal s ≡ true → is_literal t ≡ false → is s t ≡ false
  literal_apart s t h k = is_other s t (λ e. let z = sym h ∙ ap is_literal e ∙ k in cc)

  literal_no_sequence : (s : Symbol) → is_literal s ≡ true → begins_sequence s ≡ false
  literal_no_sequence symbol.Number h = refl
  literal_no_sequence symbol.Literal h = refl
  literal_no_sequence _ h = absurd (cc)

  prefix_apart : (s t : Symbol) → is_prefix s ≡ true → is_prefix t ≡ false → is s t ≡ false
  prefix_apart s t h k = is_other s t (λ e. let z = sym h ∙ ap is_prefix e ∙ k in cc)

  prefix_no_sequence : (s : Symbol) → is_prefix s ≡ true → begins_sequence s ≡ false
  prefix_no_sequence symbol.Exclamation h = refl
  prefix_no_sequence symbol.Tilde h = refl
  prefix_no_sequence symbol.And h = refl
  prefix_no_sequence symbol.Or h = refl
  prefix_no_sequence symbol.Caret h = refl
  prefix_no_sequence _ h = absurd (cc)

  Spells : (room i : ℕ) → RawExpr × ℕ → Type 0
  Spells room i x = atom_with symbols (prop_at symbols room) room i ≡ Some (bool x.0, x.1)

  atom_case : (room : ℕ)
      → ((i : ℕ) (x : RawExpr × ℕ) → operand_at symbols room i ≡ Some x → prop_at symbols room g.primary i
      ≡ Some (bool x.0, x.1))
      → ((i : ℕ) (x : RawExpr × ℕ) → choice_at symbols room false i ≡ Some x → is_at symbols x.1 symbol.CloseParenthesis
      ≡ true → prop_at symbols room g.prop i ≡ Some (bool x.0, x.1))
      → AtomFact room
  unfolding AtomFact operand_with Spells paren_with prefix_with
  atom_case room op ch i x e =
      one_way (is_at symbols i symbol.Name) _ _ x e
      (λ h e1. let a = is_same (symbol_at symbols i) symbol.Name h in
      atom_operand room i x (apart symbols i symbol.Name symbol.Exclamation a (λ e. cc))
      (apart symbols i symbol.Name symbol.OpenParenthesis a (λ e. cc))
      (apart symbols i symbol.Name symbol.PropertyName a (λ e. cc)) (let z : begins_sequence (symbol_at symbols i)
      ≡ false = rw a refl in z) e)
      λ _ e1. one_way (is_literal (symbol_at symbols i)) _ _ x e1
      (λ h e2. atom_operand room i x (literal_apart (symbol_at symbols i) symbol.Exclamation h refl)
      (literal_apart (symbol_at symbols i) symbol.OpenParenthesis h refl)
      (literal_apart (symbol_at symbols i) symbol.PropertyName h refl) (literal_no_sequence (symbol_at symbols i) h) e)
      λ _ e2. one_way (is_at symbols i symbol.OpenParenthesis) _ _ x e2
      (λ h e3. bound (choice_at symbols room false (i + 1)) (λ e. need (is_at symbols e.1 symbol.CloseParenthesis)
      (Some (e.0, e.1 + 1))) x e3
      λ y e4 e5. needed _ _ x e5 λ c e6. given (Spells room i) e6 (atom_paren room i y h (ch (i + 1) y e4 c) c))
      λ not_paren e3. needed _ _ x e3
      λ h e4. decide (is_at symbols i symbol.Exclamation)
      (λ a. bound (operand_at symbols room (i + 1)) (λ e. Some (unary i e.0, e.1)) x e4
      λ y e5 e6. given (Spells room i) e6 (atom_not room i (bool y.0) y.1 a (op (i + 1) y e5)))
      λ a. atom_operand room i x a not_paren (prefix_apart (symbol_at symbols i) symbol.PropertyName h refl)
      (prefix_no_sequence (symbol_at symbols i) h) e

  -- ---- what is read where nothing goes on

  module _ (room : ℕ) where
    abbrev pub inner : Phrase → ℕ → Read RawProp
    inner = prop_at symbols room

    abbrev pub BothWay : (i : ℕ) (p : RawProp) (j : ℕ) → Type 0
    BothWay i p j = Turns (length symbols) (goes_at symbols symbol.AndAnd) (and_with symbols inner room)
        (both_with symbols inner room i) (p, j)

    abbrev pub EitherWay : (i : ℕ) (p : RawProp) (j : ℕ) → Type 0
    EitherWay i p j = Turns (length symbols) (goes_at symbols symbol.OrOr) (or_with symbols inner room)
        (either_with symbols inner room i) (p, j)

    abbrev pub HdlWay : (i : ℕ) (p : RawProp) (j : ℕ) → Type 0
    HdlWay i p j = (q : RawProp × ℕ) × (either_with symbols inner room i ≡ Some q)
        × (branches_of symbols room q.0 q.1 ≡ Some (p, j))

    abbrev pub LowWay : (i : ℕ) (p : RawProp) (j : ℕ) → Type 0
    LowWay i p j = (y : RawProp × ℕ) × HdlWay i y.0 y.1 × (times_of symbols y.0 y.1 ≡ Some (p, j))

    abbrev pub AbtWay : (i : ℕ) (p : RawProp) (j : ℕ) → Type 0
    AbtWay i p j = Turns (length symbols) (goes_at symbols symbol.Abort) (abort_with symbols room)
        (abt_with symbols inner room i) (p, j)

    pub factor_of : (i : ℕ) (p : RawProp) (j : ℕ) (y : Read RawProp) → atom_with symbols inner room i ≡ Some (p, j)
        → tighter_of symbols room p j ≡ y
        → factor_with symbols inner room i ≡ y
    unfolding factor_with
    factor_of i p j y a b = then (atom_with symbols inner room i) (λ p. tighter_of symbols room p.0 p.1) (p, j) y a b

    pub tighter_plain : (p : RawProp) (j : ℕ) → is_bool p ≡ false → tighter_of symbols room p j ≡ Some (p, j)
    unfolding tighter_of
    tighter_plain (bool e) j h = absurd (cc)
    tighter_plain p j h = refl

    pub both_begins : (i : ℕ) (p : RawProp) (j : ℕ) → factor_with symbols inner room i ≡ Some (p, j) → BothWay i p j
    unfolding both_with
    both_begins i p j e = record {
      left = suc (length symbols);
      enough = omega arith;
      same = ap (λ (o : Read RawProp). o >>= loop (goes_at symbols symbol.AndAnd) (and_with symbols inner room)
          (suc (length symbols))) e;
    }

    pub both_stops : (i : ℕ) (p : RawProp) (j : ℕ) → BothWay i p j → j ≤ length symbols → is_at symbols j symbol.AndAnd
        ≡ false
        → both_with symbols inner room i ≡ Some (p, j)
    both_stops i p j w within h = stops (length symbols) (goes_at symbols symbol.AndAnd) (and_with symbols inner room)
        (both_with symbols inner room i) (p, j) w within h

    pub both_turns : (i : ℕ) (l r : RawProp) (m j : ℕ) → BothWay i l m → m ≤ length symbols
        → is_at symbols m symbol.AndAnd ≡ true
        → factor_with symbols inner room (m + 1) ≡ Some (r, j) → m < j → BothWay i (combination m l r) j
    unfolding and_with
    both_turns i l r m j w within h e lt =
        turns (length symbols) (goes_at symbols symbol.AndAnd) (and_with symbols inner room)
        (both_with symbols inner room i) (l, m) (combination m l r, j) w within h
        (then (factor_with symbols inner room (m + 1)) (combined (l, m)) (r, j) _ e refl) lt

    pub either_begins : (i : ℕ) (p : RawProp) (j : ℕ) → both_with symbols inner room i ≡ Some (p, j) → EitherWay i p j
    unfolding either_with
    either_begins i p j e = record {
      left = suc (length symbols);
      enough = omega arith;
      same = ap (λ (o : Read RawProp). o >>= loop (goes_at symbols symbol.OrOr) (or_with symbols inner room)
          (suc (length symbols))) e;
    }

    pub either_stops : (i : ℕ) (p : RawProp) (j : ℕ) → EitherWay i p j → j ≤ length symbols
        → is_at symbols j symbol.OrOr ≡ false
        → either_with symbols inner room i ≡ Some (p, j)
    either_stops i p j w within h = stops (length symbols) (goes_at symbols symbol.OrOr) (or_with symbols inner room)
        (either_with symbols inner room i) (p, j) w within h

    pub either_turns : (i : ℕ) (l r : RawProp) (m j : ℕ) → EitherWay i l m → m ≤ length symbols
        → is_at symbols m symbol.OrOr ≡ true
        → both_with symbols inner room (m + 1) ≡ Some (r, j) → m < j → EitherWay i (combination m l r) j
    unfolding or_with
    either_turns i l r m j w within h e lt =
        turns (length symbols) (goes_at symbols symbol.OrOr) (or_with symbols inner room)
        (either_with symbols inner room i) (l, m) (combination m l r, j) w within h
        (then (both_with symbols inner room (m + 1)) (combined (l, m)) (r, j) _ e refl) lt

    branches_plain : (p : RawProp) (j : ℕ) → is_at symbols j symbol.Question ≡ false → branches_of symbols room p j
        ≡ Some (p, j)
    unfolding branches_of branches_with
    branches_plain (bool e) j h = then (branches_with symbols (choice_at symbols room) false (e, j)) as_bool (e, j) _
        (that_way _ _ _ _ h refl) refl
    branches_plain p j h = refl

    times_plain : (p : RawProp) (j : ℕ) → is_rep (symbol_at symbols j) ≡ false → times_of symbols p j ≡ Some (p, j)
    unfolding times_of
    times_plain (bool e) j h = that_way _ _ _ _ h refl
    times_plain p j h = refl

    pub hdl_of : (i : ℕ) (p : RawProp) (j : ℕ) → either_with symbols inner room i ≡ Some (p, j)
        → is_at symbols j symbol.Question ≡ false → HdlWay i p j
    hdl_of i p j e h = ((p, j), e, branches_plain p j h)

    pub low_of : (i : ℕ) (p : RawProp) (j : ℕ) → HdlWay i p j → is_rep (symbol_at symbols j) ≡ false → LowWay i p j
    low_of i p j w h = ((p, j), w, times_plain p j h)

    pub abt_begins : (i : ℕ) (p : RawProp) (j : ℕ) → LowWay i p j → AbtWay i p j
    unfolding abt_with settled aborts_from
    abt_begins i p j (y, (q, e, b), t) = record {
      left = suc (length symbols);
      enough = omega arith;
      same = then (either_with symbols inner room i) (settled symbols room) q _ e
          (then (branches_of symbols room q.0 q.1) (λ y. times_of symbols y.0 y.1 >>= aborts_from symbols room) y _ b
          (then (times_of symbols y.0 y.1) (aborts_from symbols room) (p, j) _ t refl));
    }

    pub abt_stops : (i : ℕ) (p : RawProp) (j : ℕ) → AbtWay i p j → j ≤ length symbols
        → is_at symbols j symbol.Abort ≡ false
        → abt_with symbols inner room i ≡ Some (p, j)
    abt_stops i p j w within h = stops (length symbols) (goes_at symbols symbol.Abort) (abort_with symbols room)
        (abt_with symbols inner room i) (p, j) w within h

    pub abt_turns : (i : ℕ) (p : RawProp) (e : RawExpr) (m j : ℕ) → AbtWay i p m → m ≤ length symbols
        → is_at symbols m symbol.Abort ≡ true
        → bool_in symbols room false (m + 1) ≡ Some (e, j) → m < j → AbtWay i (abort p e) j
    unfolding abort_with
    abt_turns i p e m j w within h b lt =
        turns (length symbols) (goes_at symbols symbol.Abort) (abort_with symbols room) (abt_with symbols inner room i)
        (p, m) (abort p e, j) w within h
        (then (bool_in symbols room false (m + 1)) (λ e. Some (abort p e.0, e.1)) (e, j) _ b refl) lt

    pub occ_plain : (i : ℕ) (p : RawProp) (j : ℕ) → abt_with symbols inner room i ≡ Some (p, j)
        → opens_word (symbol_at symbols i) ≡ false
        → occ_with symbols inner room i ≡ Some (p, j)
    unfolding occ_with
    occ_plain i p j e h =
        that_way _ _ _ _ (word_other (symbol_at symbols i) symbol.EventuallyStrong refl h)
        (that_way _ _ _ _ (no_next (symbol_at symbols i) h) e)

    pub untl_plain : (i : ℕ) (p : RawProp) (j : ℕ) → occ_with symbols inner room i ≡ Some (p, j)
        → is_at symbols j symbol.Until ≡ false
        → untl_with symbols inner room i ≡ Some (p, j)
    unfolding untl_with until_with
    untl_plain i p j e h = then (occ_with symbols inner room i) (until_with symbols inner room) (p, j) _ e
        (that_way _ _ _ _ h refl)

    pub suff_plain : (i : ℕ) (p : RawProp) (j : ℕ) → untl_with symbols inner room i ≡ Some (p, j)
        → is_at symbols j symbol.Suffix ≡ false
        → suff_with symbols inner room i ≡ Some (p, j)
    unfolding suff_with suffix_with
    suff_plain i p j e h = then (untl_with symbols inner room i) (suffix_with symbols inner room) (p, j) _ e
        (that_way _ _ _ _ h refl)

    pub impl_plain : (i : ℕ) (p : RawProp) (j : ℕ) → suff_with symbols inner room i ≡ Some (p, j)
        → is_at symbols j symbol.Arrow ≡ false
        → is_at symbols j symbol.DoubleArrow ≡ false → impl_with symbols inner room i ≡ Some (p, j)
    unfolding impl_with implied_with
    impl_plain i p j e h k = then (suff_with symbols inner room i) (implied_with symbols inner room) (p, j) _ e
        (that_way _ _ _ _ h (that_way _ _ _ _ k refl))

    pub prop_plain : (i : ℕ) (p : RawProp) (j : ℕ) → impl_with symbols inner room i ≡ Some (p, j)
        → is_at symbols i symbol.Always ≡ false
        → prop_with symbols inner room i ≡ Some (p, j)
    unfolding prop_with
    prop_plain i p j e h = that_way _ _ _ _ h e

    -- not one of the marks that go on
    pub not_mark : (j : ℕ) (t : Symbol) (k : ℕ) → k < follow (symbol_at symbols j) → follow t ≤ k → is_at symbols j t
        ≡ false
    not_mark j t k h le = level_not (symbol_at symbols j) t (follow t) refl (λ e. omega (arith, e))

    -- ---- bools

    module _ (fact : AtomFact room) where
      tighter_bool : (x : RawExpr × ℕ) (e : RawExpr) (j : ℕ) → levels_with symbols (operand_in symbols room) false 7 x
          ≡ Some (e, j)
          → tighter_of symbols room (bool x.0) x.1 ≡ Some (bool e, j)
      unfolding tighter_of
      tighter_bool x e j h = then (levels_with symbols (operand_in symbols room) false 7 (x.0, x.1)) as_bool (e, j) _ h
          refl

      pub factor_bool : {e : RawExpr} {i j : ℕ} → IsExpr symbols room 7 e i j → Ends symbols false 7 j
          → factor_with symbols inner room i ≡ Some (bool e, j)
      unfolding joined_with AtomFact
      factor_bool {e = e} {i = i} {j = j} p ends =
          let all = level_read symbols room false 7 e i j (lit≤ tt) (bounds symbols 7 e i j p).1 ends
          (expr_spelled symbols p) in
          bound (operand_in symbols room i) (levels_with symbols (operand_in symbols room) false 7) (e, j) all
          λ x e1 e2. factor_of i (bool x.0) x.1 (Some (bool e, j)) (fact i x e1) (tighter_bool x e j e2)

      at_and : (s : Symbol) → after_level s ≡ 8 → s ≡ symbol.AndAnd
      at_and symbol.AndAnd h = refl
      at_and symbol.OpenBracket h = absurd (omega (arith, h))
      at_and symbol.Sum h = absurd (omega (arith, h))
      at_and symbol.Shift h = absurd (omega (arith, h))
      at_and symbol.Order h = absurd (omega (arith, h))
      at_and symbol.Equality h = absurd (omega (arith, h))
      at_and symbol.And h = absurd (omega (arith, h))
      at_and symbol.Caret h = absurd (omega (arith, h))
      at_and symbol.Or h = absurd (omega (arith, h))
      at_and symbol.OrOr h = absurd (omega (arith, h))
      at_and symbol.Question h = absurd (omega (arith, h))
      at_and _ h = absurd (omega (arith, h))

      at_or : (s : Symbol) → after_level s ≡ 9 → s ≡ symbol.OrOr
      at_or symbol.OrOr h = refl
      at_or symbol.OpenBracket h = absurd (omega (arith, h))
      at_or symbol.Sum h = absurd (omega (arith, h))
      at_or symbol.Shift h = absurd (omega (arith, h))
      at_or symbol.Order h = absurd (omega (arith, h))
      at_or symbol.Equality h = absurd (omega (arith, h))
      at_or symbol.And h = absurd (omega (arith, h))
      at_or symbol.Caret h = absurd (omega (arith, h))
      at_or symbol.Or h = absurd (omega (arith, h))
      at_or symbol.AndAnd h = absurd (omega (arith, h))
      at_or symbol.Question h = absurd (omega (arith, h))
      at_or _ h = absurd (omega (arith, h))

      at_level : {e : RawExpr} {i j : ℕ} (k n : ℕ) → k ≡ n → IsExpr symbols room k e i j → IsExpr symbols room n e i j
      at_level {e = e} {i = i} {j = j} k n same p = subst (λ (x : ℕ). IsExpr symbols room x e i j) same p

  pub both_bool : {room level : ℕ} {e : RawExpr} {i j : ℕ} → AtomFact room → IsExpr symbols room level e i j → level ≡ 8
      → Ends symbols false 7 j
      → BothWay room i (bool e) j
  both_bool fact (whole h) same ends = absurd (omega (arith, same))
  both_bool fact (bit h a b c) same ends = absurd (omega (arith, same))
  both_bool fact (part h a b c d f) same ends = absurd (omega (arith, same))
  both_bool fact (literally h) same ends = absurd (omega (arith, same))
  both_bool fact (parens h p q) same ends = absurd (omega (arith, same))
  both_bool fact (prefixed h p) same ends = absurd (omega (arith, same))
  both_bool {room = room} fact (joined {k = k} {l = l} {r = r} {i = i} {m = m} {j = j} lt p o q) same ends =
      let below : k ≡ 7 = omega (arith, same) in
      let left = bounds symbols (suc k) l i m p in
      let right = bounds symbols k r (m + 1) j q in
      let level : after_level (symbol_at symbols m) ≡ 8 = o ∙ same in
      both_turns room i (bool l) (bool r) m j (both_bool fact p same (omega (arith, level))) left.1
      (at symbols m symbol.AndAnd (at_and room fact (symbol_at symbols m) level))
      (factor_bool room fact (at_level room fact k 7 below q) ends) (omega arith)
  both_bool fact (chosen p a v b w) same ends = absurd (omega (arith, same))
  both_bool {room = room} fact (looser {k = k} {e = e} {i = i} {j = j} p) same ends =
      let below : k ≡ 7 = omega (arith, same) in both_begins room i (bool e) j
      (factor_bool room fact (at_level room fact k 7 below p) ends)

  both_bool_all : {room : ℕ} {e : RawExpr} {i j : ℕ} → AtomFact room → IsExpr symbols room 8 e i j
      → Ends symbols false 8 j
      → both_with symbols (inner room) room i ≡ Some (bool e, j)
  both_bool_all {room = room} {e = e} {i = i} {j = j} fact p ends =
      both_stops room i (bool e) j (both_bool fact p refl (omega arith)) (bounds symbols 8 e i j p).1
      (not_at symbols j symbol.AndAnd (λ a. let z : level_at false symbols j ≡ 8 = rw a refl in omega (arith, z)))

  pub either_bool : {room level : ℕ} {e : RawExpr} {i j : ℕ} → AtomFact room → IsExpr symbols room level e i j
      → level ≡ 9
      → Ends symbols false 8 j
      → EitherWay room i (bool e) j
  either_bool fact (whole h) same ends = absurd (omega (arith, same))
  either_bool fact (bit h a b c) same ends = absurd (omega (arith, same))
  either_bool fact (part h a b c d f) same ends = absurd (omega (arith, same))
  either_bool fact (literally h) same ends = absurd (omega (arith, same))
  either_bool fact (parens h p q) same ends = absurd (omega (arith, same))
  either_bool fact (prefixed h p) same ends = absurd (omega (arith, same))
  either_bool {room = room} fact (joined {k = k} {l = l} {r = r} {i = i} {m = m} {j = j} lt p o q) same ends =
      let below : k ≡ 8 = omega (arith, same) in
      let left = bounds symbols (suc k) l i m p in
      let right = bounds symbols k r (m + 1) j q in
      let level : after_level (symbol_at symbols m) ≡ 9 = o ∙ same in
      either_turns room i (bool l) (bool r) m j (either_bool fact p same (omega (arith, level))) left.1
      (at symbols m symbol.OrOr (at_or room fact (symbol_at symbols m) level))
      (both_bool_all fact (at_level room fact k 8 below q) ends) (omega arith)
  either_bool fact (chosen p a v b w) same ends = absurd (omega (arith, same))
  either_bool {room = room} fact (looser {k = k} {e = e} {i = i} {j = j} p) same ends =
      let below : k ≡ 8 = omega (arith, same) in either_begins room i (bool e) j
      (both_bool_all fact (at_level room fact k 8 below p) ends)

  either_bool_all : {room : ℕ} {e : RawExpr} {i j : ℕ} → AtomFact room → IsExpr symbols room 9 e i j
      → Ends symbols false 9 j
      → either_with symbols (inner room) room i ≡ Some (bool e, j)
  either_bool_all {room = room} {e = e} {i = i} {j = j} fact p ends =
      either_stops room i (bool e) j (either_bool fact p refl (omega arith)) (bounds symbols 9 e i j p).1
      (not_at symbols j symbol.OrOr (λ a. let z : level_at false symbols j ≡ 9 = rw a refl in omega (arith, z)))

  branches_chosen : (r : ℕ) (t y n : RawExpr) (q c j : ℕ) → At symbols q symbol.Question → At symbols c symbol.Colon
      → choice_at symbols (suc r) false (q + 1) ≡ Some (y, c) → choice_at symbols (suc r) false (c + 1) ≡ Some (n, j)
      → branches_of symbols (suc r) (bool t) q ≡ Some (bool (expr.choice q t y n), j)
  unfolding branches_of branches_with
  branches_chosen r t y n q c j hq hc b d =
      then (branches_with symbols (choice_at symbols (suc r)) false (t, q)) as_bool (expr.choice q t y n, j) _
      (this_way _ _ _ _ (at symbols q symbol.Question hq) (then (choice_at symbols (suc r) false (q + 1)) _ (y, c) _ b
      (has _ _ _ (at symbols c symbol.Colon hc) (then (choice_at symbols (suc r) false (c + 1))
      (λ x. Some (expr.choice q t y x.0, x.1)) (n, j) _ d refl)))) refl

  not_question : (j : ℕ) → Ends symbols false 10 j → is_at symbols j symbol.Question ≡ false
  not_question j ends = not_at symbols j symbol.Question (λ a. let z = question_level symbols false j a in
      omega (arith, z))

  pub hdl_bool : {room level : ℕ} {e : RawExpr} {i j : ℕ} → AtomFact room → IsExpr symbols room level e i j → level ≡ 10
      → Ends symbols false 10 j
      → HdlWay room i (bool e) j
  hdl_bool fact (whole h) same ends = absurd (omega (arith, same))
  hdl_bool fact (bit h a b c) same ends = absurd (omega (arith, same))
  hdl_bool fact (part h a b c d f) same ends = absurd (omega (arith, same))
  hdl_bool fact (literally h) same ends = absurd (omega (arith, same))
  hdl_bool fact (parens h p q) same ends = absurd (omega (arith, same))
  hdl_bool fact (prefixed h p) same ends = absurd (omega (arith, same))
  hdl_bool fact (joined lt p o q) same ends = absurd (omega (arith, same))
  hdl_bool fact (chosen {room = r} {t = t} {y = y} {n = n} {i = i} {q = q} {c = c} {j = j} p a v b w) same ends = (
    (bool t, q),
    either_bool_all fact p (let z = question_level symbols false q a in omega (arith, z)),
    branches_chosen r t y n q c j a b (inner_choice symbols r false (q + 1) _
        (choice_spelled symbols false v (colon_ends symbols c b)))
        (inner_choice symbols r false (c + 1) _ (choice_spelled symbols false w ends)),
  )
  hdl_bool {room = room} fact (looser {k = k} {e = e} {i = i} {j = j} p) same ends =
      let below : k ≡ 9 = omega (arith, same) in
      hdl_of room i (bool e) j (either_bool_all fact (at_level room fact k 9 below p) (omega arith))
      (not_question j ends)

  -- ---- a bool as a whole property, and so every operand

  pub follow_ends : (k j : ℕ) → k < 11 → k < follow (symbol_at symbols j) → Ends symbols false k j
  follow_ends k j lt h = follow_after (symbol_at symbols j) k lt h

  pub not_eleven : (j k : ℕ) → 11 ≤ k → k < follow (symbol_at symbols j) → follow (symbol_at symbols j) ≡ 11 → ⊥
  not_eleven j k le h e = omega (arith, e)

  bool_prop : {room : ℕ} {e : RawExpr} {i j : ℕ} → AtomFact room → IsExpr symbols room 10 e i j
      → 17 < follow (symbol_at symbols j)
      → prop_with symbols (inner room) room i ≡ Some (bool e, j)
  bool_prop {room = room} {e = e} {i = i} {j = j} fact p h =
      let within = (bounds symbols 10 e i j p).1 in
      let low = low_of room i (bool e) j (hdl_bool fact p refl (follow_ends 10 j (lit< tt) (omega arith)))
      (no_rep (symbol_at symbols j) (not_eleven j 17 (lit≤ tt) h)) in
      let abt = abt_stops room i (bool e) j (abt_begins room i (bool e) j low) within
      (not_mark room j symbol.Abort 17 h (lit≤ tt)) in
      let occ = occ_plain room i (bool e) j abt (expr_starts symbols p) in
      let untl = untl_plain room i (bool e) j occ (not_mark room j symbol.Until 17 h (lit≤ tt)) in
      let suff = suff_plain room i (bool e) j untl (not_mark room j symbol.Suffix 17 h (lit≤ tt)) in
      let impl = impl_plain room i (bool e) j suff (not_mark room j symbol.Arrow 17 h (lit≤ tt))
      (not_mark room j symbol.DoubleArrow 17 h (lit≤ tt)) in
      prop_plain room i (bool e) j impl (word_other (symbol_at symbols i) symbol.Always refl (expr_starts symbols p))

  close_follow : (j : ℕ) → is_at symbols j symbol.CloseParenthesis ≡ true → 17 < follow (symbol_at symbols j)
  close_follow j h =
      let a = is_same (symbol_at symbols j) symbol.CloseParenthesis h in
      let z : follow (symbol_at symbols j) ≡ 18 = rw a refl in omega (arith, z)

  atoms_next : (r : ℕ) → AtomFact r → AtomFact (suc r)
  unfolding AtomFact prop_at phrase_with operand_at choice_at
  atoms_next r fact =
      atom_case (suc r) (λ i x e. fact i x e)
      (λ i x e c. bool_prop fact (choice_is symbols r false i x e) (close_follow x.1 c))

  atoms_zero : AtomFact zero
  unfolding AtomFact operand_at choice_at
  atoms_zero = atom_case zero (λ i x e. absurd (cc)) (λ i x e c. absurd (cc))

  pub atoms : (room : ℕ) → AtomFact room
  atoms zero = atoms_zero
  atoms (suc r) = atoms_next r (atoms r)
