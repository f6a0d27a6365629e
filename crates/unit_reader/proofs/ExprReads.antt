-- What is read is an expression.
use Rattle.std.proofs.Common.{◌≡◌, ℕ, zero, suc, ◌+◌, ◌≤◌, Bool, true, false, IsTrue, Some, List, length, arith, lit≤}
use Rattle.std.proofs.lemmas.Bool.{eqb-true}
use Rattle.psl_grammar.specs.declared.symbols.Symbol.{Symbol}
use Rattle.psl_grammar.specs.declared.symbols.Symbol.TheVariants as symbol
use Rattle.psl_grammar.specs.Symbols.{symbol_at, At, level_at, is_prefix}
use Rattle.psl_grammar.specs.RawExpr.{RawExpr, choice}
use Rattle.psl_grammar.specs.ExprGrammar.{IsExpr, whole, bit, part, literally, parens, prefixed, joined, chosen, looser}
use Rattle.psl_grammar.specs.PropGrammar.{IsParen, paren}
use Rattle.unit_reader.specs.inner.Steps.{◌>>=◌, need, is_at, Read}
use Rattle.unit_reader.specs.inner.ExprReaders.{part_at, select_at, name_at, paren_with, prefix_with, operand_with}
use Rattle.unit_reader.specs.inner.ExprReaders.{joins, join_with, levels_with, joined_with, branches_with, choice_with}
use Rattle.unit_reader.specs.inner.ExprReaders.{operand_at, choice_at, operand_in, choice_in}
use Rattle.unit_reader.proofs.SymbolTests.{is_same, bound, needed, one_way, given, loop_reads}
use Rattle.unit_reader.proofs.ExprFacts.{level_real}

module _ (symbols : List Symbol) where
  pub Phrase : (room level i : ℕ) → RawExpr × ℕ → Type 0
  Phrase room level i y = IsExpr symbols room level y.0 i y.1

  at : (i : ℕ) (s : Symbol) → is_at symbols i s ≡ true → At symbols i s
  at i s h = is_same (symbol_at symbols i) s h

  part_reads : (room i : ℕ) (y : RawExpr × ℕ) → part_at symbols i ≡ Some y → At symbols i symbol.Name
      → At symbols (i + 1) symbol.OpenBracket → At symbols (i + 2) symbol.Number → Phrase room 0 i y
  unfolding part_at Phrase
  part_reads room i y e a b c =
      needed _ _ y e λ h3 e3. needed _ _ y e3 λ h4 e4. needed _ _ y e4
      λ h5 e5. given (Phrase room 0 i) e5 (part a b c (at (i + 3) symbol.Colon h3) (at (i + 4) symbol.Number h4)
      (at (i + 5) symbol.CloseBracket h5))

  name_reads : (room i : ℕ) (y : RawExpr × ℕ) → name_at symbols i ≡ Some y → At symbols i symbol.Name
      → Phrase room 0 i y
  unfolding name_at select_at Phrase
  name_reads room i y e a =
      one_way _ _ _ y e
      (λ h1 e1. needed _ _ y e1 λ h2 e2. one_way _ _ _ y e2
      (λ h3 e3. given (Phrase room 0 i) e3 (bit a (at (i + 1) symbol.OpenBracket h1) (at (i + 2) symbol.Number h2)
      (at (i + 3) symbol.CloseBracket h3)))
      (λ h3 e3. part_reads room i y e3 a (at (i + 1) symbol.OpenBracket h1) (at (i + 2) symbol.Number h2)))
      (λ h1 e1. given (Phrase room 0 i) e1 (whole a))

  -- a phrase in one more open phrase
  pub Opened : (room level i : ℕ) → RawExpr × ℕ → Type 0
  Opened zero level i y = ⊥
  Opened (suc r) level i y = Phrase r level i y

  paren_reads : (room i : ℕ) (y : RawExpr × ℕ) (inside : ℕ → Read RawExpr)
      → ((n : ℕ) (x : RawExpr × ℕ) → inside n ≡ Some x → Opened room 10 n x)
      → paren_with symbols inside i ≡ Some y → At symbols i symbol.OpenParenthesis → Phrase room 0 i y
  unfolding paren_with Phrase Opened
  paren_reads zero i y inside sound e a = bound _ _ y e λ x e1 e2. absurd (sound (i + 1) x e1)
  paren_reads (suc r) i y inside sound e a =
      bound _ _ y e λ x e1 e2. needed _ _ y e2
      λ h e3. given (Phrase (suc r) 0 i) e3 (parens a (sound (i + 1) x e1) (at x.1 symbol.CloseParenthesis h))

  prefix_reads : (room i : ℕ) (y : RawExpr × ℕ) (operand : ℕ → Read RawExpr)
      → ((n : ℕ) (x : RawExpr × ℕ) → operand n ≡ Some x → Opened room 0 n x)
      → prefix_with symbols operand i ≡ Some y → IsTrue (is_prefix (symbol_at symbols i)) → Phrase room 0 i y
  unfolding prefix_with Phrase Opened
  prefix_reads zero i y operand sound e a = bound _ _ y e λ x e1 e2. absurd (sound (i + 1) x e1)
  prefix_reads (suc r) i y operand sound e a =
      bound _ _ y e λ x e1 e2. given (Phrase (suc r) 0 i) e2 (prefixed a (sound (i + 1) x e1))

  operand_reads : (room i : ℕ) (y : RawExpr × ℕ) (operand inside : ℕ → Read RawExpr)
      → ((n : ℕ) (x : RawExpr × ℕ) → operand n ≡ Some x → Opened room 0 n x)
      → ((n : ℕ) (x : RawExpr × ℕ) → inside n ≡ Some x → Opened room 10 n x)
      → operand_with symbols operand inside i ≡ Some y → Phrase room 0 i y
  unfolding operand_with Phrase
  operand_reads room i y operand inside op ch e =
      one_way _ _ _ y e (λ h1 e1. name_reads room i y e1 (at i symbol.Name h1))
      λ _ e1. one_way _ _ _ y e1 (λ h2 e2. given (Phrase room 0 i) e2 (literally h2))
      λ _ e2. one_way _ _ _ y e2 (λ h3 e3. paren_reads room i y inside ch e3 (at i symbol.OpenParenthesis h3))
      λ _ e3. needed _ _ y e3 λ h4 e4. prefix_reads room i y operand op e4 h4

  -- ---- levels

  levels_read : (room : ℕ) (operand : ℕ → Read RawExpr) (braced : Bool)
      → ((n : ℕ) (x : RawExpr × ℕ) → operand n ≡ Some x → Phrase room 0 n x)
      → (k : ℕ) → k ≤ 9 → (i : ℕ) (x y : RawExpr × ℕ) → Phrase room 0 i x → levels_with symbols operand braced k x
      ≡ Some y → Phrase room k i y
  unfolding levels_with join_with Phrase
  levels_read room operand braced op zero le i x y p e = given (Phrase room 0 i) e p
  levels_read room operand braced op (suc k) le i x y p e =
      bound _ _ y e
      λ l e1 e2. loop_reads (joins symbols braced (suc k)) (join_with symbols
      (λ m. operand m >>= levels_with symbols operand braced k)) (Phrase room (suc k) i)
      (λ a b more pa step. bound _ _ b step
      λ r e3 e4. bound _ _ r e3
      λ o e5 e6. given (Phrase room (suc k) i) e4
      (joined (omega arith) pa
      (level_real symbols braced a.1 (suc k) (eqb-true (level_at braced symbols a.1) (suc k) more) (omega arith))
      (levels_read room operand braced op k (omega arith) (a.1 + 1) o r (op (a.1 + 1) o e5) e6)))
      (suc (length symbols)) l y (looser (levels_read room operand braced op k (omega arith) i x l p e1)) e2

  pub joined_reads : (room : ℕ) (operand : ℕ → Read RawExpr) (braced : Bool)
      → ((n : ℕ) (x : RawExpr × ℕ) → operand n ≡ Some x → Phrase room 0 n x)
      → (k : ℕ) → k ≤ 9 → (i : ℕ) (y : RawExpr × ℕ) → joined_with symbols operand braced k i ≡ Some y
      → Phrase room k i y
  unfolding joined_with
  joined_reads room operand braced op k le i y e =
      bound _ _ y e λ x e1 e2. levels_read room operand braced op k le i x y (op i x e1) e2

  abbrev no_of : (inside : Bool → ℕ → Read RawExpr) (braced : Bool) (t y : RawExpr × ℕ) → Read RawExpr
  no_of inside braced t y =
      need (is_at symbols y.1 symbol.Colon) (inside braced (y.1 + 1) >>= λ n. Some (choice t.1 t.0 y.0 n.0, n.1))

  abbrev yes_of : (inside : Bool → ℕ → Read RawExpr) (braced : Bool) (t : RawExpr × ℕ) → Read RawExpr
  yes_of inside braced t = inside false (t.1 + 1) >>= no_of inside braced t

  branches_read : (room : ℕ) (inside : Bool → ℕ → Read RawExpr) (braced : Bool)
      → ((b : Bool) (n : ℕ) (x : RawExpr × ℕ) → inside b n ≡ Some x → Opened room 10 n x)
      → (i : ℕ) (t y : RawExpr × ℕ) → Phrase room 9 i t → branches_with symbols inside braced t ≡ Some y
      → Phrase room 10 i y
  unfolding branches_with Phrase Opened
  branches_read zero inside braced ch i t y p e =
      one_way (is_at symbols t.1 symbol.Question) (yes_of inside braced t) (Some t) y e
      (λ h e1. bound (inside false (t.1 + 1)) (no_of inside braced t) y e1 λ x e2 e3. absurd (ch false (t.1 + 1) x e2))
      (λ h e1. given (Phrase zero 10 i) e1 (looser p))
  branches_read (suc r) inside braced ch i t y p e =
      one_way (is_at symbols t.1 symbol.Question) (yes_of inside braced t) (Some t) y e
      (λ h e1. bound (inside false (t.1 + 1)) (no_of inside braced t) y e1
      λ a e2 e3. needed _ _ y e3
      λ h2 e4. bound (inside braced (a.1 + 1)) (λ b. Some (choice t.1 t.0 a.0 b.0, b.1)) y e4
      λ b e5 e6. given (Phrase (suc r) 10 i) e6
      (chosen p (at t.1 symbol.Question h) (ch false (t.1 + 1) a e2) (at a.1 symbol.Colon h2)
      (ch braced (a.1 + 1) b e5)))
      (λ h e1. given (Phrase (suc r) 10 i) e1 (looser p))

  choice_reads : (room : ℕ) (operand : ℕ → Read RawExpr) (inside : Bool → ℕ → Read RawExpr) (braced : Bool)
      → ((n : ℕ) (x : RawExpr × ℕ) → operand n ≡ Some x → Phrase room 0 n x)
      → ((b : Bool) (n : ℕ) (x : RawExpr × ℕ) → inside b n ≡ Some x → Opened room 10 n x)
      → (i : ℕ) (y : RawExpr × ℕ) → choice_with symbols operand inside braced i ≡ Some y → Phrase room 10 i y
  unfolding choice_with
  choice_reads room operand inside braced op ch i y e =
      bound _ _ y e λ t e1 e2. branches_read room inside braced ch i t y
      (joined_reads room operand braced op 9 (lit≤ tt) i t e1) e2

  -- ---- rooms

  pub record Sound (room : ℕ) : Type 0 where
    pub operand : (n : ℕ) (x : RawExpr × ℕ) → operand_at symbols room n ≡ Some x → Opened room 0 n x
    pub choice : (b : Bool) (n : ℕ) (x : RawExpr × ℕ) → choice_at symbols room b n ≡ Some x → Opened room 10 n x

  pub operand_sound : (room : ℕ) → Sound room → (i : ℕ) (y : RawExpr × ℕ) → operand_in symbols room i ≡ Some y
      → Phrase room 0 i y
  operand_sound room s i y e =
      operand_reads room i y (operand_at symbols room) (choice_at symbols room false) s.operand (s.choice false) e

  pub choice_sound : (room : ℕ) → Sound room → (braced : Bool) (i : ℕ) (y : RawExpr × ℕ)
      → choice_in symbols room braced i ≡ Some y
      → Phrase room 10 i y
  choice_sound room s braced i y e =
      choice_reads room (operand_in symbols room) (choice_at symbols room) braced (operand_sound room s) s.choice i y e

  pub sound : (room : ℕ) → Sound room
  unfolding operand_at choice_at Opened
  sound zero = record { operand = λ n x e. absurd (cc); choice = λ b n x e. absurd (cc) }
  sound (suc r) = record { operand = operand_sound r (sound r); choice = choice_sound r (sound r) }

  pub choice_is : (room : ℕ) (braced : Bool) (i : ℕ) (y : RawExpr × ℕ) → choice_in symbols room braced i ≡ Some y
      → IsExpr symbols room 10 y.0 i y.1
  unfolding Phrase
  choice_is room braced i y e = choice_sound room (sound room) braced i y e

  pub operand_is : (room : ℕ) (i : ℕ) (y : RawExpr × ℕ) → operand_in symbols room i ≡ Some y
      → IsExpr symbols room 0 y.0 i y.1
  unfolding Phrase
  operand_is room i y e = operand_sound room (sound room) i y e

  pub levels_are : (room k i : ℕ) (x y : RawExpr × ℕ) → k ≤ 9 → IsExpr symbols room 0 x.0 i x.1
      → levels_with symbols (operand_in symbols room) false k x ≡ Some y → IsExpr symbols room k y.0 i y.1
  unfolding Phrase
  levels_are room k i x y le p e = levels_read room (operand_in symbols room) false (operand_sound room (sound room)) k
      le i x y p e

  pub branches_are : (room : ℕ) (braced : Bool) (i : ℕ) (t y : RawExpr × ℕ) → IsExpr symbols room 9 t.0 i t.1
      → branches_with symbols (choice_at symbols room) braced t ≡ Some y → IsExpr symbols room 10 y.0 i y.1
  unfolding Phrase
  branches_are room braced i t y p e = branches_read room (choice_at symbols room) braced (sound room).choice i t y p e

  pub paren_is : (room i : ℕ) (y : RawExpr × ℕ) → At symbols i symbol.OpenParenthesis
      → paren_with symbols (choice_at symbols room false) i ≡ Some y
      → IsParen symbols room y.0 i y.1
  unfolding paren_with Phrase Opened
  paren_is zero i y a e = bound _ _ y e λ x e1 e2. absurd ((sound zero).choice false (i + 1) x e1)
  paren_is (suc r) i y a e =
      bound _ _ y e λ x e1 e2. needed _ _ y e2
      λ h e3. given (λ (z : RawExpr × ℕ). IsParen symbols (suc r) z.0 i z.1) e3
      (paren a ((sound (suc r)).choice false (i + 1) x e1) (at x.1 symbol.CloseParenthesis h))
