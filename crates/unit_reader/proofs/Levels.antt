-- The levels of operators, one by one.
use Rattle.std.proofs.Common.{◌-◌, ◌<◌, ◌≡◌, ℕ, zero, suc, Bool, false, Option, Some, None, List, length, refl, ap}
use Rattle.std.proofs.Common.{subst, sym, arith}
use Rattle.psl_grammar.specs.declared.symbols.Symbol.{Symbol}
use Rattle.psl_grammar.specs.RawExpr.{RawExpr}
use Rattle.psl_grammar.specs.RawSere.{RawSere}
use Rattle.psl_grammar.specs.PropGrammar.{Phrase}
use Rattle.unit_reader.specs.inner.Steps.{◌>>=◌, Read, loop}
use Rattle.unit_reader.specs.inner.ExprReaders.{joins, join_with, levels_with, joined_with}
use Rattle.unit_reader.specs.inner.SereReaders.{sere_joins, sere_join_with, levels_above}
use Rattle.unit_reader.specs.inner.PropReaders.{sequence_of, suffix_of, phrase_with, prop_at}
use Rattle.psl_grammar.specs.RawProp.{RawProp, seq}

module _ (symbols : List Symbol) (operand : ℕ → Read RawExpr) (braced : Bool) where
  pub next_level : (k : ℕ) (l : RawExpr × ℕ)
      → levels_with symbols operand braced (suc k) l
      ≡ (levels_with symbols operand braced k l
      >>= loop (joins symbols braced (suc k)) (join_with symbols (joined_with symbols operand braced k))
      (suc (length symbols)))
  unfolding levels_with joined_with
  next_level k l = refl

  assoc : {A B C : Type 0} (o : Option A) (f : A → Option B) (g : B → Option C) → (o >>= λ x. f x >>= g)
      ≡ (o >>= f >>= g)
  assoc None f g = refl
  assoc (Some x) f g = refl

  pub joined_again : (k i : ℕ)
      → joined_with symbols operand braced (suc k) i
      ≡ (joined_with symbols operand braced k i
      >>= loop (joins symbols braced (suc k)) (join_with symbols (joined_with symbols operand braced k))
      (suc (length symbols)))
  unfolding joined_with levels_with
  joined_again k i = assoc (operand i) (levels_with symbols operand braced k)
      (loop (joins symbols braced (suc k)) (join_with symbols (joined_with symbols operand braced k))
      (suc (length symbols)))

  pub level_step : (level k : ℕ) → level ≡ suc k → (l : RawExpr × ℕ)
      → levels_with symbols operand braced level l
      ≡ (levels_with symbols operand braced k l
      >>= loop (joins symbols braced level) (join_with symbols (joined_with symbols operand braced k))
      (suc (length symbols)))
  level_step level k same l =
      subst (λ (n : ℕ). levels_with symbols operand braced n l
      ≡ (levels_with symbols operand braced k l
      >>= loop (joins symbols braced n) (join_with symbols (joined_with symbols operand braced k))
      (suc (length symbols))))
      (sym same) (next_level k l)

module _ (symbols : List Symbol) (elem : ℕ → Read RawSere) where
  next_above : (k i : ℕ)
      → levels_above symbols elem (suc k) i
      ≡ (levels_above symbols elem k i
      >>= loop (sere_joins symbols (suc (suc k))) (sere_join_with symbols (levels_above symbols elem k))
      (suc (length symbols)))
  unfolding levels_above
  next_above k i = refl

  pub above_step : (above k : ℕ) → above ≡ suc k → (i : ℕ)
      → levels_above symbols elem above i
      ≡ (levels_above symbols elem k i
      >>= loop (sere_joins symbols (suc above)) (sere_join_with symbols (levels_above symbols elem k))
      (suc (length symbols)))
  above_step above k same i =
      subst (λ (n : ℕ). levels_above symbols elem n i
      ≡ (levels_above symbols elem k i
      >>= loop (sere_joins symbols (suc n)) (sere_join_with symbols (levels_above symbols elem k))
      (suc (length symbols))))
      (sym same) (next_above k i)

module _ (symbols : List Symbol) where
  pub opens_is : (room : ℕ) → 0 < room → (phrase : Phrase) (i : ℕ)
      → prop_at symbols room phrase i ≡ phrase_with symbols (prop_at symbols (room - 1)) (room - 1) phrase i
  unfolding prop_at
  opens_is zero some phrase i = absurd (omega arith)
  opens_is (suc r) some phrase i =
      let same : r ≡ suc r - 1 = omega arith in
      subst (λ (n : ℕ). prop_at symbols (suc r) phrase i ≡ phrase_with symbols (prop_at symbols n) n phrase i) same refl

  module _ (inner : Phrase → ℕ → Read RawProp) (room : ℕ) where
    pub suffix_known : (p : RawProp) (s : RawSere) (m : ℕ) → sequence_of p ≡ Some s
        → suffix_of symbols inner room p m ≡ suffix_of symbols inner room (seq s false) m
    suffix_known (seq r false) s m e =
        let same : r ≡ s = cc in ap (λ (x : RawSere). suffix_of symbols inner room (seq x false) m) same
    suffix_known p s m e = absurd (cc)

    pub suffix_none : (p : RawProp) (m : ℕ) → sequence_of p ≡ None → suffix_of symbols inner room p m ≡ None
    unfolding suffix_of
    suffix_none (seq r false) m e = absurd (cc)
    suffix_none p m e = refl
