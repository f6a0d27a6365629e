-- A unit is what is read, and what is read is one.
use Rattle.std.proofs.Common.{◌≡◌, ℕ, zero, suc, ◌+◌, ◌<◌, ◌≤◌, Bool, true, false, List, [], ◌∷◌, ◌++◌, length, Some}
use Rattle.std.proofs.Common.{None, refl, sym, ap, subst, ◌∙◌, arith}
use Rattle.std.proofs.lemmas.Bool.{eq-eqb, eqb-true}
use Rattle.std.proofs.lemmas.Bool.Decides.{nat_tests}
use Rattle.std.proofs.lemmas.List.{length-map}
use Rattle.std.specs.Prelude.{Result, Ok, Err, IfOk, MatchResult}
use Rattle.unit_reader.specs.declared.errors.ParseError.{ParseError}
use Rattle.unit_reader.specs.declared.errors.ParseError.TheVariants.{Syntax, TooDeep, OutOfMemory}
use Rattle.unit_reader.specs.inner.Answers.{Gives, Halts}
use Rattle.psl_lexer.specs.declared.kinds.Token.{Token}
use Rattle.psl_lexer.specs.declared.kinds.Kind.{Kind}
use Rattle.psl_lexer.specs.declared.kinds.Kind.TheVariants as kind
use Rattle.psl_grammar.specs.declared.symbols.Symbol.{Symbol}
use Rattle.psl_grammar.specs.declared.symbols.Symbol.TheVariants as symbol
use Rattle.psl_grammar.specs.RawUnit as raw
use Rattle.psl_grammar.specs.RawUnit.{RawItem, RawUnit}
use Rattle.psl_grammar.specs.Symbols.{symbol_at, At}
use Rattle.psl_grammar.specs.ItemGrammar.{IsItem, IsShort}
use Rattle.psl_grammar.specs.Units.{Known, kind_symbol, meaning_of, bytes_of, symbols_in, known_after}
use Rattle.psl_grammar.specs.Units.{outside, AreItems, none, more, IsUnit, plain}
use Rattle.psl_grammar.specs.Units as units
use Rattle.unit_reader.specs.inner.Steps.{◌>>=◌, need, is_at, Read}
use Rattle.unit_reader.specs.inner.ItemReaders.{is_short, item_at}
use Rattle.unit_reader.specs.inner.UnitReaders.{short_at, short_item, items_from, items_at, unit_end, bound_unit}
use Rattle.unit_reader.specs.inner.UnitReaders.{unit_read}
use Rattle.unit_reader.proofs.SymbolTests.{is_same, is_self, is_other, bound, needed, one_way, given, there}
use Rattle.unit_reader.proofs.ExprSpells.{this_way, that_way, has, then, at}
use Rattle.unit_reader.proofs.ItemReads.{item_read}
use Rattle.unit_reader.proofs.ItemSpells.{item_spelled, item_some, item_within, item_starts}

brace_kind : (a b : Symbol) (k : Kind) → (a ≡ symbol.CloseBrace → ⊥) → kind_symbol a k ≡ symbol.CloseBrace
    → kind_symbol b k ≡ symbol.CloseBrace
brace_kind a b (kind.Word w) not e = e
brace_kind a b (kind.Mark m) not e = e
brace_kind a b kind.Name not e = absurd (not e)
brace_kind a b kind.Number not e = e
brace_kind a b kind.Sized not e = e
brace_kind a b kind.Text not e = e

-- a closing brace is one whatever names mean
brace_at : (text : List ℕ) (known : Known) (tokens : List Token) (m : ℕ) → At (outside text tokens) m symbol.CloseBrace
    → At (symbols_in text known tokens) m symbol.CloseBrace
brace_at text known [] m e = e
brace_at text known (t ∷ ts) zero e = brace_kind symbol.Name (meaning_of known (bytes_of text t)) t.kind (λ e. cc) e
brace_at text known (t ∷ ts) (suc m) e = brace_at text known ts m e

true_false : (b : Bool) → (b ≡ true → ⊥) → b ≡ false
true_false true not = absurd (not refl)
true_false false not = refl

module _ (text : List ℕ) (tokens : List Token) where
  item_opens : {item : RawItem} {m j : ℕ} (known : Known) → IsItem (symbols_in text known tokens) item m j
      → is_at (outside text tokens) m symbol.CloseBrace ≡ false
  item_opens {m = m} known p =
      is_other (symbol_at (outside text tokens) m) symbol.CloseBrace
      (λ a. let b = is_self (symbol_at (symbols_in text known tokens) m) symbol.CloseBrace
      (brace_at text known tokens m a) in
      let z = sym b ∙ item_starts (symbols_in text known tokens) p in cc)

  here : (i : ℕ) (s : Symbol) → is_at (outside text tokens) i s ≡ true → At (outside text tokens) i s
  here i s h = is_same (symbol_at (outside text tokens) i) s h

  short_is : (item : RawItem) (m j : ℕ) → is_short item m j ≡ true → IsShort item m j
  short_is (raw.wire range names) m j h = tt
  short_is item m j h = grind (arith, nat_tests)

  is_short_of : (item : RawItem) (m j : ℕ) → IsShort item m j → is_short item m j ≡ true
  is_short_of (raw.wire range names) m j h = refl
  is_short_of item m j h = grind (arith, nat_tests)

  abbrev Items : (i : ℕ) → List RawItem × ℕ → Type 0
  Items i y = (known : Known) × AreItems text tokens known y.0 i y.1 × At (outside text tokens) y.1 symbol.CloseBrace

  items_read : (n : ℕ) (known : Known) (items : List RawItem) (i m : ℕ) (y : List RawItem × ℕ)
      → AreItems text tokens known items i m
      → items_from text tokens n known items m ≡ Some y → Items i y
  unfolding items_from short_at
  items_read zero known items i m y p e = absurd (cc)
  items_read (suc n) known items i m y p e =
      one_way (is_at (outside text tokens) m symbol.CloseBrace) (Some (items, m))
      (short_item text tokens known m >>= λ x. items_from text tokens n (known_after text tokens known x.0)
      (items ++ x.0 ∷ []) x.1) y e
      (λ h e1. given (Items i) e1 (known, p, here m symbol.CloseBrace h))
      λ _ e1. bound (short_item text tokens known m) (λ x. items_from text tokens n (known_after text tokens known x.0)
      (items ++ x.0 ∷ []) x.1) y e1
      λ x e2 e3. bound (item_at (symbols_in text known tokens) m) (λ z. need (is_short z.0 m z.1) (Some z)) x e2
      λ z e4 e5. needed _ _ x e5
      λ short e6. items_read n (known_after text tokens known x.0) (items ++ x.0 ∷ []) i x.1 y
      (given (λ (w : RawItem × ℕ). AreItems text tokens (known_after text tokens known w.0) (items ++ w.0 ∷ []) i w.1)
      e6
      (more p (item_read (symbols_in text known tokens) m z e4) (short_is z.0 m z.1 short))) e3

  end_read : (i : ℕ) (items : List RawItem × ℕ) (y : RawUnit) → unit_end text tokens items ≡ Some y
      → (length tokens ≡ items.1 + 1) × (record { name = 1; items = items.0 } ≡ y)
  unfolding unit_end
  end_read i items y e =
      needed _ _ y e λ h e1. (
        eqb-true (length tokens) (items.1 + 1) h,
        given
            (λ (z : RawUnit). record { name = 1; items = items.0 } ≡ z) e1 refl,
      )

  pub unit_is : (y : RawUnit) → unit_read text tokens ≡ Some y → IsUnit text tokens y
  unfolding unit_read bound_unit items_at
  unit_is y e =
      needed _ _ y e λ a e1. needed _ _ y e1
      λ n e2. one_way (is_at (outside text tokens) 2 symbol.OpenBrace) (items_at text tokens 3 >>= unit_end text tokens)
      (bound_unit text tokens) y e2
      (λ b e3. bound (items_at text tokens 3) (unit_end text tokens) y e3
      λ items e4 e5. let r = items_read (suc (length tokens)) [] [] 3 3 items none e4 in
      let f = end_read 3 items y e5 in
      subst (λ (z : RawUnit). IsUnit text tokens z) f.1 (plain (here 0 symbol.Vunit a) n (here 2 symbol.OpenBrace b) r.1
      r.2 f.0))
      λ _ e3. needed _ _ y e3 λ b e4. needed _ _ y e4 λ n2 e5. needed _ _ y e5 λ c e6. needed _ _ y e6
      λ d e7. bound (items_at text tokens 6) (unit_end text tokens) y e7
      λ items e8 e9. let r = items_read (suc (length tokens)) [] [] 6 6 items none e8 in
      let f = end_read 6 items y e9 in
      subst (λ (z : RawUnit). IsUnit text tokens z) f.1
      (units.bound (here 0 symbol.Vunit a) n (here 2 symbol.OpenParenthesis b) n2 (here 4 symbol.CloseParenthesis c)
      (here 5 symbol.OpenBrace d) r.1 r.2 f.0)

  -- ---- a unit is what is read

  pub record Way (i : ℕ) (known : Known) (items : List RawItem) (m : ℕ) : Type 0 where
    pub left : ℕ
    pub enough : length tokens < left + m
    pub same : items_at text tokens i ≡ items_from text tokens left known items m

  short_spelled : {item : RawItem} (known : Known) (m j : ℕ) → IsItem (symbols_in text known tokens) item m j
      → IsShort item m j
      → short_item text tokens known m ≡ Some (item, j)
  unfolding short_at
  short_spelled {item = item} known m j p s =
      then (item_at (symbols_in text known tokens) m) (λ z. need (is_short z.0 m z.1) (Some z)) (item, j) _
      (item_spelled (symbols_in text known tokens) p)
      (has _ _ _ (is_short_of item m j s) refl)

  pub way_turns : (i : ℕ) (known : Known) (items : List RawItem) (item : RawItem) (m j : ℕ) → Way i known items m
      → m < length tokens
      → is_at (outside text tokens) m symbol.CloseBrace ≡ false → short_item text tokens known m ≡ Some (item, j)
      → m < j
      → Way i (known_after text tokens known item) (items ++ item ∷ []) j
  unfolding items_from
  way_turns i known items item m j w within open_brace s lt = go w.left w.enough w.same
    where
      go : (n : ℕ) → length tokens < n + m → items_at text tokens i ≡ items_from text tokens n known items m
          → Way i (known_after text tokens known item) (items ++ item ∷ []) j
      go zero enough same = absurd (omega arith)
      go (suc n) enough same = record {
        left = n;
        enough = omega arith;
        same = same ∙ that_way (is_at (outside text tokens) m symbol.CloseBrace) (Some (items, m))
            (short_item text tokens known m >>= λ x. items_from text tokens n (known_after text tokens known x.0)
            (items ++ x.0 ∷ []) x.1) _ open_brace
            (then (short_item text tokens known m) (λ x. items_from text tokens n (known_after text tokens known x.0)
            (items ++ x.0 ∷ []) x.1) (item, j) _ s refl);
      }

  pub way_stops : (i : ℕ) (known : Known) (items : List RawItem) (m : ℕ) → Way i known items m → m < length tokens
      → is_at (outside text tokens) m symbol.CloseBrace ≡ true → items_at text tokens i ≡ Some (items, m)
  unfolding items_from
  way_stops i known items m w within close = go w.left w.enough w.same
    where
      go : (n : ℕ) → length tokens < n + m → items_at text tokens i ≡ items_from text tokens n known items m
          → items_at text tokens i ≡ Some (items, m)
      go zero enough same = absurd (omega arith)
      go (suc n) enough same =
          same ∙ this_way (is_at (outside text tokens) m symbol.CloseBrace) (Some (items, m))
          (short_item text tokens known m >>= λ x. items_from text tokens n (known_after text tokens known x.0)
          (items ++ x.0 ∷ []) x.1) _ close refl

  pub way_fails : (i : ℕ) (known : Known) (items : List RawItem) (m : ℕ) → Way i known items m → m ≤ length tokens
      → is_at (outside text tokens) m symbol.CloseBrace ≡ false → short_item text tokens known m ≡ None
      → items_at text tokens i ≡ None
  unfolding items_from
  way_fails i known items m w within open_brace s = go w.left w.enough w.same
    where
      go : (n : ℕ) → length tokens < n + m → items_at text tokens i ≡ items_from text tokens n known items m
          → items_at text tokens i ≡ None
      go zero enough same = absurd (omega arith)
      go (suc n) enough same =
          same ∙ that_way (is_at (outside text tokens) m symbol.CloseBrace) (Some (items, m))
          (short_item text tokens known m >>= λ x. items_from text tokens n (known_after text tokens known x.0)
          (items ++ x.0 ∷ []) x.1) _ open_brace
          (ap (λ (o : Read RawItem). o >>= λ x. items_from text tokens n (known_after text tokens known x.0)
          (items ++ x.0 ∷ []) x.1) s)

  pub way_begins : (i : ℕ) → Way i [] [] i
  unfolding items_at
  way_begins i = record { left = suc (length tokens); enough = omega arith; same = refl }

  items_way : {known : Known} {items : List RawItem} {i j : ℕ} → AreItems text tokens known items i j
      → Way i known items j
  items_way (none {i = i}) = way_begins i
  items_way (more {known = known} {items = items} {item = item} {i = i} {m = m} {j = j} p q s) =
      let some = item_some (symbols_in text known tokens) q in
      let within = item_within (symbols_in text known tokens) q in
      let long : length (symbols_in text known tokens) ≡ length tokens = simp length-map in
      way_turns i known items item m j (items_way p) (omega arith) (item_opens known q) (short_spelled known m j q s)
      some

  closes : {known : Known} {items : List RawItem} {i j : ℕ} → AreItems text tokens known items i j
      → At (outside text tokens) j symbol.CloseBrace
      → length tokens ≡ j + 1 → items_at text tokens i ≡ Some (items, j)
  closes {known = known} {items = items} {i = i} {j = j} p a e =
      way_stops i known items j (items_way p) (omega (arith, e))
      (is_self (symbol_at (outside text tokens) j) symbol.CloseBrace a)

  end_spelled : (items : List RawItem) (j : ℕ) → length tokens ≡ j + 1 → unit_end text tokens (items, j)
      ≡ Some (record { name = 1; items = items })
  unfolding unit_end
  end_spelled items j e = has _ _ _ (eq-eqb (length tokens) (j + 1) e) refl

  pub unit_spelled : {y : RawUnit} → IsUnit text tokens y → unit_read text tokens ≡ Some y
  unfolding unit_read bound_unit
  unit_spelled (plain {items = items} {j = j} a n b p c e) =
      has _ _ _ (at (outside text tokens) 0 symbol.Vunit a) (has _ _ _ n
      (this_way (is_at (outside text tokens) 2 symbol.OpenBrace) (items_at text tokens 3 >>= unit_end text tokens) _ _
      (at (outside text tokens) 2 symbol.OpenBrace b)
      (then (items_at text tokens 3) (unit_end text tokens) (items, j) _ (closes p c e) (end_spelled items j e))))
  unit_spelled (units.bound {items = items} {j = j} a n b n2 c d p f e) =
      has _ _ _ (at (outside text tokens) 0 symbol.Vunit a)
      (has _ _ _ n
      (that_way (is_at (outside text tokens) 2 symbol.OpenBrace) (items_at text tokens 3 >>= unit_end text tokens) _ _
      (is_other (symbol_at (outside text tokens) 2) symbol.OpenBrace (λ z. paren_brace (sym b ∙ z)))
      (has _ _ _ (at (outside text tokens) 2 symbol.OpenParenthesis b)
      (has _ _ _ n2 (has _ _ _ (at (outside text tokens) 4 symbol.CloseParenthesis c)
      (has _ _ _ (at (outside text tokens) 5 symbol.OpenBrace d)
      (then (items_at text tokens 6) (unit_end text tokens) (items, j) _ (closes p f e) (end_spelled items j e))))))))
    where
      paren_brace : symbol.OpenParenthesis ≡ symbol.OpenBrace → ⊥
      paren_brace z = cc

  -- tokens spell at most one unit
  pub one_unit : (a b : RawUnit) → IsUnit text tokens a → IsUnit text tokens b → a ≡ b
  one_unit a b p q = same_some (sym (unit_spelled p) ∙ unit_spelled q)
    where
      same_some : Some a ≡ Some b → a ≡ b
      same_some e = cc

  -- what an answer that gives what is read says of units
  pub answer_unit : {A : Type 0} (view : A → RawUnit) (r : Result A ParseError) → Gives view r (unit_read text tokens)
      → IfOk r (λ u. IsUnit text tokens (view u))
  answer_unit view (Ok u) h = unit_is (view u) h
  answer_unit view (Err e) h = tt

  pub answer_only : {A : Type 0} (view : A → RawUnit) (r : Result A ParseError) → Gives view r (unit_read text tokens)
      → (unit : RawUnit) → IsUnit text tokens unit → MatchResult r (λ u. view u ≡ unit) (λ e. e ≡ OutOfMemory)
  answer_only view (Ok u) h unit p = same_unit (view u) unit (sym h ∙ unit_spelled p)
    where
      same_unit : (a b : RawUnit) → Some a ≡ Some b → a ≡ b
      same_unit a b e = cc
  answer_only view (Err (Syntax t)) h unit p = absurd (no_unit unit (sym h ∙ unit_spelled p))
    where
      no_unit : (b : RawUnit) → None ≡ Some b → ⊥
      no_unit b e = cc
  answer_only view (Err (TooDeep t)) h unit p = absurd (no_unit unit (sym h ∙ unit_spelled p))
    where
      no_unit : (b : RawUnit) → None ≡ Some b → ⊥
      no_unit b e = cc
  answer_only view (Err OutOfMemory) h unit p = refl

  pub way_halts : (error : ParseError) (i : ℕ) (known : Known) (items : List RawItem) (m : ℕ) → Way i known items m
      → m ≤ length tokens
      → is_at (outside text tokens) m symbol.CloseBrace ≡ false → Halts error (short_item text tokens known m)
      → Halts error (items_at text tokens i)
  way_halts (Syntax t) i known items m w within open_brace s = way_fails i known items m w within open_brace s
  way_halts (TooDeep t) i known items m w within open_brace s = way_fails i known items m w within open_brace s
  way_halts OutOfMemory i known items m w within open_brace s = tt

  pub way_ends : (i : ℕ) (known : Known) (items : List RawItem) (m : ℕ) → Way i known items m
      → is_at (outside text tokens) m symbol.CloseBrace ≡ true → items_at text tokens i ≡ Some (items, m)
  way_ends i known items m w close =
      let lt = there (outside text tokens) m symbol.CloseBrace (here m symbol.CloseBrace close) (λ e. cc) in
      let long : length (outside text tokens) ≡ length tokens = simp length-map in
      way_stops i known items m w (omega arith) close

  pub long_symbols : (known : Known) (symbols : List Symbol) → symbols ≡ symbols_in text known tokens → length symbols
      ≡ length tokens
  long_symbols known symbols same = let long : length (symbols_in text known tokens) ≡ length tokens =
      simp length-map in ap length same ∙ long
