-- An expression that nothing goes on with is what is read.
use Rattle.std.proofs.Common.{◌≡◌, ℕ, zero, suc, ◌+◌, ◌<◌, ◌≤◌, Bool, true, false, IsTrue, Option, Some, None, List}
use Rattle.std.proofs.Common.{length, refl, sym, ap, subst, ◌∙◌, arith, lit≤}
use Rattle.std.proofs.lemmas.Bool.{eq-eqb}
use Rattle.std.specs.Prelude.{nat_lt}
use Rattle.std.proofs.lemmas.Bool.Decides.{nat_tests}
use Rattle.psl_grammar.specs.declared.symbols.Symbol.{Symbol}
use Rattle.psl_grammar.specs.declared.symbols.Symbol.TheVariants as symbol
use Rattle.psl_grammar.specs.Symbols.{symbol_at, At, level_at, is_prefix, is_literal}
use Rattle.psl_grammar.specs.RawExpr.{RawExpr, name, literal, unary, binary, choice}
use Rattle.psl_grammar.specs.ExprGrammar.{IsExpr, IsBool, Ends, whole, bit, part, literally, parens, prefixed, joined}
use Rattle.psl_grammar.specs.ExprGrammar.{chosen, looser}
use Rattle.unit_reader.specs.inner.Steps.{◌>>=◌, need, either_way, is_at, loop}
use Rattle.unit_reader.specs.inner.ExprReaders.{part_at, select_at, name_at, paren_with, prefix_with, operand_with}
use Rattle.unit_reader.specs.inner.ExprReaders.{joins, join_with, levels_with, joined_with, branches_with, choice_with}
use Rattle.unit_reader.specs.inner.ExprReaders.{operand_at, choice_at, operand_in, choice_in, bool_in}
use Rattle.unit_reader.proofs.SymbolTests.{is_self, is_other}
use Rattle.unit_reader.proofs.Loops.{Turns, stops, turns}
use Rattle.unit_reader.proofs.Levels.{joined_again}
use Rattle.unit_reader.proofs.ExprFacts.{bounds, begins_apart, level_plain, question_level, bracket_level}

-- which step is taken
pub this_way : {A : Type 0} (b : Bool) (o p : Option A) (y : Option A) → b ≡ true → o ≡ y → either_way b o p ≡ y
this_way true o p y h e = e
this_way false o p y h e = absurd (cc)

pub that_way : {A : Type 0} (b : Bool) (o p : Option A) (y : Option A) → b ≡ false → p ≡ y → either_way b o p ≡ y
that_way true o p y h e = absurd (cc)
that_way false o p y h e = e

pub has : {A : Type 0} (b : Bool) (o : Option A) (y : Option A) → b ≡ true → o ≡ y → need b o ≡ y
has true o y h e = e
has false o y h e = absurd (cc)

pub then : {A B : Type 0} (o : Option A) (f : A → Option B) (x : A) (y : Option B) → o ≡ Some x → f x ≡ y → (o >>= f)
    ≡ y
then None f x y e k = absurd (cc)
then {A} {B} (Some z) f x y e k = let same : z ≡ x = cc in ap f same ∙ k

module _ (symbols : List Symbol) where
  pub at : (i : ℕ) (s : Symbol) → At symbols i s → is_at symbols i s ≡ true
  at i s h = is_self (symbol_at symbols i) s h

  pub not_at : (i : ℕ) (s : Symbol) → (At symbols i s → ⊥) → is_at symbols i s ≡ false
  not_at i s h = is_other (symbol_at symbols i) s h

  literal_name : (s : Symbol) → IsTrue (is_literal s) → s ≡ symbol.Name → ⊥
  literal_name s h e = let g = rw e at h in cc

  prefix_name : (s : Symbol) → IsTrue (is_prefix s) → s ≡ symbol.Name → ⊥
  prefix_name s h e = let g = rw e at h in cc

  prefix_paren : (s : Symbol) → IsTrue (is_prefix s) → s ≡ symbol.OpenParenthesis → ⊥
  prefix_paren s h e = let g = rw e at h in cc

  prefix_literal : (s : Symbol) → IsTrue (is_prefix s) → is_literal s ≡ false
  prefix_literal symbol.Exclamation h = refl
  prefix_literal symbol.Tilde h = refl
  prefix_literal symbol.And h = refl
  prefix_literal symbol.Or h = refl
  prefix_literal symbol.Caret h = refl
  prefix_literal _ h = absurd (cc)

  -- no select follows
  abbrev pub NoSelect : ℕ → Type 0
  NoSelect j = is_at symbols j symbol.OpenBracket ≡ false

  pub ends_select : (braced : Bool) (k j : ℕ) → Ends symbols braced k j → NoSelect j
  ends_select braced k j h = not_at j symbol.OpenBracket (λ a. let z = bracket_level symbols braced j a in
      omega (arith, z))

  close_select : (j : ℕ) (s : Symbol) → At symbols j s → (s ≡ symbol.OpenBracket → ⊥) → NoSelect j
  close_select j s a not = not_at j symbol.OpenBracket (λ b. not (sym a ∙ b))

  -- with the turns that a loop has left, a phrase of a level is on the way
  abbrev Way : (room : ℕ) (braced : Bool) (k i : ℕ) (e : RawExpr) (j : ℕ) → Type 0
  Way room braced k i e j =
      Turns (length symbols) (joins symbols braced (suc k)) (join_with symbols
      (joined_with symbols (operand_in symbols room) braced k))
      (joined_with symbols (operand_in symbols room) braced (suc k) i) (e, j)

  abbrev pub Spelled : (room level : ℕ) (e : RawExpr) (i j : ℕ) → Type 0
  Spelled room zero e i j = NoSelect j → operand_in symbols room i ≡ Some (e, j)
  Spelled room (suc k) e i j =
      ((braced : Bool) → k < 9 → Ends symbols braced k j → Way room braced k i e j)
      × ((braced : Bool) → k ≡ 9 → Ends symbols braced 10 j → choice_in symbols room braced i ≡ Some (e, j))

  -- up to level 9 the phrase is read where nothing goes on with it
  pub level_read : (room : ℕ) (braced : Bool) (k : ℕ) (e : RawExpr) (i j : ℕ) → k ≤ 9 → j ≤ length symbols
      → Ends symbols braced k j
      → Spelled room k e i j → joined_with symbols (operand_in symbols room) braced k i ≡ Some (e, j)
  unfolding joined_with levels_with
  level_read room braced zero e i j le within ends s =
      then (operand_in symbols room i) (levels_with symbols (operand_in symbols room) braced zero) (e, j) (Some (e, j))
      (s (ends_select braced zero j ends)) refl
  level_read room braced (suc k) e i j le within ends s =
      stops (length symbols) (joins symbols braced (suc k)) (join_with symbols
      (joined_with symbols (operand_in symbols room) braced k))
      (joined_with symbols (operand_in symbols room) braced (suc k) i) (e, j)
      (s.0 braced (omega arith) (omega arith)) within
      (grind (arith, nat_tests))

  joins_at : (braced : Bool) (m n : ℕ) → level_at braced symbols m ≡ n → joins symbols braced n m ≡ true
  joins_at braced m n h = eq-eqb (level_at braced symbols m) n h

  name_with : (room i : ℕ) (y : Option (RawExpr × ℕ)) → At symbols i symbol.Name → name_at symbols i ≡ y
      → operand_in symbols room i ≡ y
  unfolding operand_with
  name_with room i y h e = this_way _ _ _ y (at i symbol.Name h) e

  literal_with : (room i : ℕ) → IsTrue (is_literal (symbol_at symbols i)) → operand_in symbols room i
      ≡ Some (literal i, i + 1)
  unfolding operand_with
  literal_with room i h =
      that_way _ _ _ _ (not_at i symbol.Name (literal_name (symbol_at symbols i) h)) (this_way _ _ _ _ h refl)

  open_name : (i : ℕ) → At symbols i symbol.OpenParenthesis → At symbols i symbol.Name → ⊥
  open_name i a b = let g = sym a ∙ b in cc

  paren_with_is : (room i : ℕ) (y : Option (RawExpr × ℕ)) → At symbols i symbol.OpenParenthesis
      → paren_with symbols (choice_at symbols room false) i ≡ y → operand_in symbols room i ≡ y
  unfolding operand_with
  paren_with_is room i y h e =
      that_way _ _ _ y (not_at i symbol.Name (open_name i h))
      (that_way _ _ _ y (let other : is_literal (symbol_at symbols i) ≡ false = rw h refl in other)
      (this_way _ _ _ y (at i symbol.OpenParenthesis h) e))

  prefix_with_is : (room i : ℕ) (y : Option (RawExpr × ℕ)) → IsTrue (is_prefix (symbol_at symbols i))
      → prefix_with symbols (operand_at symbols room) i ≡ y → operand_in symbols room i ≡ y
  unfolding operand_with
  prefix_with_is room i y h e =
      that_way _ _ _ y (not_at i symbol.Name (prefix_name (symbol_at symbols i) h))
      (that_way _ _ _ y (prefix_literal (symbol_at symbols i) h)
      (that_way _ _ _ y (not_at i symbol.OpenParenthesis (prefix_paren (symbol_at symbols i) h)) (has _ _ y h e)))

  bit_read : (i : ℕ) → At symbols (i + 1) symbol.OpenBracket → At symbols (i + 2) symbol.Number
      → At symbols (i + 3) symbol.CloseBracket
      → name_at symbols i ≡ Some (name i (Some (i + 2, None)), i + 4)
  unfolding name_at select_at
  bit_read i a b c =
      this_way _ _ _ _ (at (i + 1) symbol.OpenBracket a) (has _ _ _ (at (i + 2) symbol.Number b)
      (this_way _ _ _ _ (at (i + 3) symbol.CloseBracket c) refl))

  colon_close : (i : ℕ) → At symbols i symbol.Colon → At symbols i symbol.CloseBracket → ⊥
  colon_close i a b = let g = sym a ∙ b in cc

  part_read : (i : ℕ) → At symbols (i + 1) symbol.OpenBracket → At symbols (i + 2) symbol.Number
      → At symbols (i + 3) symbol.Colon
      → At symbols (i + 4) symbol.Number → At symbols (i + 5) symbol.CloseBracket
      → name_at symbols i ≡ Some (name i (Some (i + 2, Some (i + 4))), i + 6)
  unfolding name_at select_at part_at
  part_read i a b c d f =
      this_way _ _ _ _ (at (i + 1) symbol.OpenBracket a)
      (has _ _ _ (at (i + 2) symbol.Number b)
      (that_way _ _ _ _ (not_at (i + 3) symbol.CloseBracket (colon_close (i + 3) c))
      (has _ _ _ (at (i + 3) symbol.Colon c) (has _ _ _ (at (i + 4) symbol.Number d)
      (has _ _ _ (at (i + 5) symbol.CloseBracket f) refl)))))

  whole_read : (i : ℕ) → NoSelect (i + 1) → name_at symbols i ≡ Some (name i None, i + 1)
  unfolding name_at
  whole_read i none = that_way _ _ _ _ none refl

  pub close_ends : (j : ℕ) → At symbols j symbol.CloseParenthesis → Ends symbols false 10 j
  close_ends j h = let z : level_at false symbols j ≡ 11 = rw h refl in omega (arith, z)

  pub colon_ends : (j : ℕ) → At symbols j symbol.Colon → Ends symbols false 10 j
  colon_ends j h = let z : level_at false symbols j ≡ 11 = rw h refl in omega (arith, z)

  -- the test of a choice, where none follows, is the whole
  alone_read : (room : ℕ) (braced : Bool) (e : RawExpr) (i j : ℕ) → Ends symbols braced 10 j
      → joined_with symbols (operand_in symbols room) braced 9 i ≡ Some (e, j) → choice_in symbols room braced i
      ≡ Some (e, j)
  unfolding choice_with branches_with
  alone_read room braced e i j ends r =
      then _ (branches_with symbols (choice_at symbols room) braced) (e, j) _ r
      (that_way _ _ _ _ (not_at j symbol.Question (λ a. let z = question_level symbols braced j a in omega (arith, z)))
      refl)

  chosen_read : (room : ℕ) (braced : Bool) (t y n : RawExpr) (i q c j : ℕ) → At symbols q symbol.Question
      → At symbols c symbol.Colon
      → joined_with symbols (operand_in symbols room) braced 9 i ≡ Some (t, q)
      → choice_at symbols room false (q + 1) ≡ Some (y, c) → choice_at symbols room braced (c + 1) ≡ Some (n, j)
      → choice_in symbols room braced i ≡ Some (choice q t y n, j)
  unfolding choice_with branches_with
  chosen_read room braced t y n i q c j hq hc a b d =
      then _ (branches_with symbols (choice_at symbols room) braced) (t, q) _ a
      (this_way _ _ _ _ (at q symbol.Question hq) (then _ _ (y, c) _ b
      (has _ _ _ (at c symbol.Colon hc) (then _ _ (n, j) _ d refl))))

  join_step : (room : ℕ) (braced : Bool) (k : ℕ) (l r : RawExpr) (m j : ℕ)
      → joined_with symbols (operand_in symbols room) braced k (m + 1) ≡ Some (r, j)
      → join_with symbols (joined_with symbols (operand_in symbols room) braced k) (l, m) ≡ Some (binary m l r, j)
  unfolding join_with
  join_step room braced k l r m j e = then _ _ (r, j) _ e refl

  -- the way begins where the phrase of the level below is read
  way_begins : (room : ℕ) (braced : Bool) (k : ℕ) (e : RawExpr) (i j : ℕ)
      → joined_with symbols (operand_in symbols room) braced k i ≡ Some (e, j) → Way room braced k i e j
  way_begins room braced k e i j r = record {
    left = suc (length symbols);
    enough = omega arith;
    same = joined_again symbols (operand_in symbols room) braced k i
        ∙ ap (λ (o : Option (RawExpr × ℕ)). o >>= loop (joins symbols braced (suc k))
        (join_with symbols (joined_with symbols (operand_in symbols room) braced k)) (suc (length symbols))) r;
  }

  pub paren_read : (r i j : ℕ) (e : RawExpr) → choice_at symbols (suc r) false (i + 1) ≡ Some (e, j)
      → At symbols j symbol.CloseParenthesis
      → paren_with symbols (choice_at symbols (suc r) false) i ≡ Some (e, j + 1)
  unfolding paren_with
  paren_read r i j e a q = then _ _ (e, j) _ a (has _ _ _ (at j symbol.CloseParenthesis q) refl)

  prefix_read : (r i j : ℕ) (e : RawExpr) → operand_at symbols (suc r) (i + 1) ≡ Some (e, j)
      → prefix_with symbols (operand_at symbols (suc r)) i ≡ Some (unary i e, j)
  unfolding prefix_with
  prefix_read r i j e a = then _ _ (e, j) _ a refl

  inner_operand : (room : ℕ) (i : ℕ) (y : Option (RawExpr × ℕ)) → operand_in symbols room i ≡ y
      → operand_at symbols (suc room) i ≡ y
  unfolding operand_at
  inner_operand room i y e = e

  pub inner_choice : (room : ℕ) (b : Bool) (i : ℕ) (y : Option (RawExpr × ℕ)) → choice_in symbols room b i ≡ y
      → choice_at symbols (suc room) b i ≡ y
  unfolding operand_at choice_at
  inner_choice room b i y e = e

  top : (room level : ℕ) (e : RawExpr) (i j : ℕ) → level ≡ 10 → Spelled room level e i j → (braced : Bool)
      → Ends symbols braced 10 j
      → choice_in symbols room braced i ≡ Some (e, j)
  top room zero e i j same s braced ends = absurd (omega (arith, same))
  top room (suc k) e i j same s braced ends = s.1 braced (omega (arith, same)) ends

  pub spelled : {room level : ℕ} {e : RawExpr} {i j : ℕ} → IsExpr symbols room level e i j → Spelled room level e i j
  spelled {room = room} (whole {i = i} h) = λ none. name_with room i _ h (whole_read i none)
  spelled {room = room} (bit {i = i} h a b c) = λ none. name_with room i _ h (bit_read i a b c)
  spelled {room = room} (part {i = i} h a b c d f) = λ none. name_with room i _ h (part_read i a b c d f)
  spelled {room = room} (literally {i = i} h) = λ none. literal_with room i h
  spelled (parens {room = r} {e = e} {i = i} {j = j} h p q) =
      λ none. paren_with_is (suc r) i _ h
      (paren_read r i j e (inner_choice r false (i + 1) _ (top r 10 e (i + 1) j refl (spelled p) false
      (close_ends j q))) q)
  spelled (prefixed {room = r} {e = e} {i = i} {j = j} h p) =
      λ none. prefix_with_is (suc r) i _ h (prefix_read r i j e (inner_operand r (i + 1) _ (spelled p none)))
  spelled {room = room} (joined {k = k} {l = l} {r = r} {i = i} {m = m} {j = j} lt p o q) = (
    (λ braced small ends.
        let left = bounds symbols (suc k) l i m p in
        let right = bounds symbols k r (m + 1) j q in
        let here = level_plain symbols braced m (begins_apart symbols q) ∙ o in
        turns (length symbols) (joins symbols braced (suc k))
        (join_with symbols (joined_with symbols (operand_in symbols room) braced k))
        (joined_with symbols (operand_in symbols room) braced (suc k) i) (l, m) (binary m l r, j)
        ((spelled p).0 braced lt (let z : level_at braced symbols m ≡ suc k = here in omega (arith, z)))
        left.1 (joins_at braced m (suc k) here)
        (join_step room braced k l r m j (level_read room braced k r (m + 1) j (omega arith) right.1 ends (spelled q)))
        (omega arith)),
    λ braced same ends. absurd (omega arith),
  )
  spelled (chosen {room = r} {t = t} {y = y} {n = n} {i = i} {q = q} {c = c} {j = j} p a v b w) = (
    (λ braced small ends. absurd (omega arith)),
    λ braced same ends.
        let test = bounds symbols 9 t i q p in
        chosen_read (suc r) braced t y n i q c j a b
        (level_read (suc r) braced 9 t i q (lit≤ tt) test.1 (let z = question_level symbols braced q a in
        omega (arith, z)) (spelled p))
        (inner_choice r false (q + 1) _ (top r 10 y (q + 1) c refl (spelled v) false (colon_ends c b)))
        (inner_choice r braced (c + 1) _ (top r 10 n (c + 1) j refl (spelled w) braced ends)),
  )
  spelled {room = room} {j = j} (looser {k = k} {e = e} {i = i} p) = (
    (λ braced small ends.
        let b = bounds symbols k e i j p in
        way_begins room braced k e i j (level_read room braced k e i j (omega arith) b.1 ends (spelled p))),
    λ braced same ends.
        let b = bounds symbols k e i j p in
        alone_read room braced e i j ends
        (subst (λ (n : ℕ). joined_with symbols (operand_in symbols room) braced n i ≡ Some (e, j)) same
        (level_read room braced k e i j (omega arith) b.1 (omega arith) (spelled p))),
  )

  pub choice_spelled : {room : ℕ} {e : RawExpr} {i j : ℕ} (braced : Bool) → IsExpr symbols room 10 e i j
      → Ends symbols braced 10 j
      → choice_in symbols room braced i ≡ Some (e, j)
  choice_spelled {room = room} {e = e} {i = i} {j = j} braced p ends = top room 10 e i j refl (spelled p) braced ends

  above_ten : (braced : Bool) (j : ℕ) → Ends symbols braced 10 j → nat_lt 10 (level_at braced symbols j) ≡ true
  above_ten braced j h = grind (arith, nat_tests)

  pub bool_spelled : {room : ℕ} {e : RawExpr} {i j : ℕ} (braced : Bool) → IsBool symbols room braced e i j
      → bool_in symbols room braced i ≡ Some (e, j)
  unfolding bool_in
  bool_spelled {e = e} {j = j} braced p = then _ _ (e, j) _ (choice_spelled braced p.0 p.1)
      (has _ _ _ (above_ten braced j p.1) refl)
