-- Where an expression ends, with which symbol it begins, and what goes on with it.
use Rattle.std.proofs.Common.{◌≡◌, ℕ, suc, ◌+◌, ◌<◌, ◌≤◌, Bool, true, false, ◌&&◌, cond, IsTrue, List, length, refl}
use Rattle.std.proofs.Common.{◌∙◌, arith}
use Rattle.psl_grammar.specs.declared.symbols.Symbol.{Symbol}
use Rattle.psl_grammar.specs.declared.symbols.Symbol.TheVariants.{End, Name, Number, Literal, CloseParenthesis}
use Rattle.psl_grammar.specs.declared.symbols.Symbol.TheVariants.{OpenBracket, CloseBracket, Question, Exclamation}
use Rattle.psl_grammar.specs.declared.symbols.Symbol.TheVariants.{Tilde, And, Or, Caret}
use Rattle.psl_grammar.specs.Symbols.{symbol_at, At, after_level, level_at, may_join, begins_sequence, joins_sequences}
use Rattle.psl_grammar.specs.Symbols.{is_prefix, is_literal}
use Rattle.psl_grammar.specs.RawExpr.{RawExpr}
use Rattle.psl_grammar.specs.ExprGrammar.{IsExpr, whole, bit, part, literally, parens, prefixed, joined, chosen, looser}
use Rattle.unit_reader.proofs.SymbolTests.{there}

module _ (symbols : List Symbol) where
  literal_end : (s : Symbol) → IsTrue (is_literal s) → s ≡ End → ⊥
  literal_end Number h e = cc
  literal_end Literal h e = cc
  literal_end _ h e = cc

  pub bounds : {room : ℕ} (k : ℕ) (e : RawExpr) (i j : ℕ) → IsExpr symbols room k e i j → (i < j) × (j ≤ length symbols)
  bounds _ _ _ _ (whole {i} h) = (omega arith, let l = there symbols i Name h (λ p. cc) in omega arith)
  bounds _ _ _ _ (bit {i} h1 h2 h3 h4) = (
    omega arith,
    let l = there symbols (i + 3) CloseBracket h4 (λ p. cc) in
        omega arith,
  )
  bounds _ _ _ _ (part {i} h1 h2 h3 h4 h5 h6) = (
    omega arith,
    let l = there symbols (i + 5) CloseBracket h6 (λ p. cc) in
        omega arith,
  )
  bounds _ _ _ _ (literally {i} h) = (
    omega arith,
    let l = there symbols i (symbol_at symbols i) refl
        (literal_end (symbol_at symbols i) h) in omega arith,
  )
  bounds _ _ _ _ (parens {e} {i} {j} h p q) = (
    let b = bounds 10 e (i + 1) j p in omega arith,
    let l =
        there symbols j CloseParenthesis q (λ p. cc) in omega arith,
  )
  bounds _ _ _ _ (prefixed {e} {i} {j} h p) = (
    let b = bounds 0 e (i + 1) j p in
        omega arith,
    (bounds 0 e (i + 1) j p).1,
  )
  bounds _ _ _ _ (joined {k} {l} {r} {i} {m} {j} lt p o q) =
      let a = bounds (suc k) l i m p in
      let b = bounds k r (m + 1) j q in
      (omega arith, b.1)
  bounds _ _ _ _ (chosen {t} {y} {n} {i} {q} {c} {j} p o v s w) =
      let a = bounds 9 t i q p in
      let b = bounds 10 y (q + 1) c v in
      let d = bounds 10 n (c + 1) j w in
      (omega arith, d.1)
  bounds _ _ _ _ (looser {k} {e} {i} {j} p) = bounds k e i j p

  -- an expression doesn't begin as another sequence does
  literal_apart : (s : Symbol) → IsTrue (is_literal s) → begins_sequence s ≡ false
  literal_apart Number h = refl
  literal_apart Literal h = refl
  literal_apart _ h = absurd (cc)

  prefix_apart : (s : Symbol) → IsTrue (is_prefix s) → begins_sequence s ≡ false
  prefix_apart Exclamation h = refl
  prefix_apart Tilde h = refl
  prefix_apart And h = refl
  prefix_apart Or h = refl
  prefix_apart Caret h = refl
  prefix_apart _ h = absurd (cc)

  pub begins_apart : {room : ℕ} {k : ℕ} {e : RawExpr} {i j : ℕ} → IsExpr symbols room k e i j
      → begins_sequence (symbol_at symbols i) ≡ false
  begins_apart (whole h) = rw h refl
  begins_apart (bit h h2 h3 h4) = rw h refl
  begins_apart (part h h2 h3 h4 h5 h6) = rw h refl
  begins_apart {i = i} (literally h) = literal_apart (symbol_at symbols i) h
  begins_apart (parens h p q) = rw h refl
  begins_apart {i = i} (prefixed h p) = prefix_apart (symbol_at symbols i) h
  begins_apart (joined lt l o r) = begins_apart l
  begins_apart (chosen p o v w x) = begins_apart p
  begins_apart (looser p) = begins_apart p

  -- ---- what goes on with a bool

  plain : (braced joins begins : Bool) (n : ℕ) → begins ≡ false → cond (braced && (joins && begins)) 11 n ≡ n
  plain true true begins n h = rw h refl
  plain true false begins n h = refl
  plain false joins begins n h = refl

  pub level_plain : (braced : Bool) (m : ℕ) → begins_sequence (symbol_at symbols (m + 1)) ≡ false
      → level_at braced symbols m ≡ after_level (symbol_at symbols m)
  level_plain braced m h =
      plain braced (may_join (symbol_at symbols m)) (begins_sequence (symbol_at symbols (m + 1)))
      (after_level (symbol_at symbols m)) h

  either_of : (b : Bool) (m n : ℕ) → cond b 11 m ≡ n → n < 11 → m ≡ n
  either_of true m n h lt = absurd (omega (arith, h))
  either_of false m n h lt = h

  pub level_real : (braced : Bool) (m n : ℕ) → level_at braced symbols m ≡ n → n < 11
      → after_level (symbol_at symbols m) ≡ n
  level_real braced m n h lt = either_of (braced && joins_sequences symbols m) (after_level (symbol_at symbols m)) n h
      lt

  joins_not : (b joins rest : Bool) (n : ℕ) → joins ≡ false → cond (b && (joins && rest)) 11 n ≡ n
  joins_not true joins rest n h = rw h refl
  joins_not false joins rest n h = refl

  pub question_level : (braced : Bool) (q : ℕ) → At symbols q Question → level_at braced symbols q ≡ 10
  question_level braced q at =
      let joins : may_join (symbol_at symbols q) ≡ false = rw at refl in
      let after : after_level (symbol_at symbols q) ≡ 10 = rw at refl in
      joins_not braced (may_join (symbol_at symbols q)) (begins_sequence (symbol_at symbols (q + 1)))
      (after_level (symbol_at symbols q)) joins ∙ after

  pub bracket_level : (braced : Bool) (m : ℕ) → At symbols m OpenBracket → level_at braced symbols m ≡ 0
  bracket_level braced q at =
      let joins : may_join (symbol_at symbols q) ≡ false = rw at refl in
      let after : after_level (symbol_at symbols q) ≡ 0 = rw at refl in
      joins_not braced (may_join (symbol_at symbols q)) (begins_sequence (symbol_at symbols (q + 1)))
      (after_level (symbol_at symbols q)) joins ∙ after
