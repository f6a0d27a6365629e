-- Leading `!` and the truth of an expression.
use Rattle.std.proofs.Common.{◌≡◌, ◌≢◌, ℕ, Bool, true, false, not, ◌==◌, ◌&&◌, List, refl, sym, ap, ◌∙◌}
use Rattle.std.proofs.Common.{inl, inr, true≢false, eqb-true}
use Rattle.std.proofs.lemmas.Bool.{cases_Bool}
use Rattle.psl_meaning.specs.Word.{Valuation}
use Rattle.psl_model.specs.Expr.{Expr, sized, unary}
use Rattle.psl_model.specs.Value.{own_value, bit_of}
use Rattle.psl_model.specs.declared.operators.UnOp.TheVariants.{Not}
use Rattle.symbol_alphabet.specs.Symbols.{stripped, is_positive, is_one, needs_none, truth}

module _ (widths : List ℕ) (values : Valuation) where
  turned : (b : Bool) → not (bit_of b == 0) ≡ b
  turned true = refl
  turned false = refl

  twice : (b : Bool) → not (not b) ≡ b
  twice true = refl
  twice false = refl

  -- `!` turns the truth
  pub truth-not : (e : Expr) → truth widths values (unary Not e) ≡ not (truth widths values e)
  truth-not e = turned (own_value widths values e == 0) ∙ sym (twice (own_value widths values e == 0))

  turn_to : (t p b : Bool) → (t ≡ p → b ≡ true) → (b ≡ true → t ≡ p) → t ≡ not p → not b ≡ true
  turn_to true true b f g e = absurd (true≢false e)
  turn_to true false true f g e = absurd (true≢false (g refl))
  turn_to true false false f g e = refl
  turn_to false true true f g e = absurd (true≢false (sym (g refl)))
  turn_to false true false f g e = refl
  turn_to false false b f g e = absurd (true≢false (sym e))

  turn_from : (t p b : Bool) → (t ≡ p → b ≡ true) → not b ≡ true → t ≡ not p
  turn_from true true b f e = absurd (true≢false (sym e ∙ ap not (f refl)))
  turn_from true false b f e = refl
  turn_from false true b f e = refl
  turn_from false false b f e = absurd (true≢false (sym e ∙ ap not (f refl)))

  -- the sign is the truth of what is left exactly where the expression is true
  abbrev IsAsSigned : Expr → Type 0
  IsAsSigned e = (truth widths values (stripped e) ≡ is_positive e → truth widths values e ≡ true) ×
      (truth widths values e ≡ true → truth widths values (stripped e) ≡ is_positive e)

  pub as_signed : (e : Expr) → IsAsSigned e
  as_signed (unary Not e) =
      let h = as_signed e in (
        (λ s. truth-not e
            ∙ turn_to (truth widths values (stripped e)) (is_positive e) (truth widths values e) h.0 h.1 s),
        (λ t. turn_from (truth widths values (stripped e)) (is_positive e) (truth widths values e) h.0
            (sym (truth-not e) ∙ t)),
      )
  as_signed e = ((λ s. s), (λ t. t))

  -- what needs no symbol is true
  one_true : (e : Expr) → is_one e ≡ true → truth widths values e ≡ true
  one_true (sized width value) h =
      let parts = both_true (width == 1) (value == 1) h in
      ap (λ (n : ℕ). not (n == 0)) (eqb-true value 1 parts.1)
    where
      both_true : (a b : Bool) → a && b ≡ true → (a ≡ true) × (b ≡ true)
      both_true true true e = (refl, refl)
      both_true true false e = absurd (true≢false (sym e))
      both_true false b e = absurd (true≢false (sym e))
  one_true e h = absurd (true≢false (sym h))

  pub none_true : (e : Expr) → needs_none e ≡ true → truth widths values e ≡ true
  none_true e h =
      let parts = both_true (is_positive e) (is_one (stripped e)) h in
      (as_signed e).0 (one_true (stripped e) parts.1 ∙ sym parts.0)
    where
      both_true : (a b : Bool) → a && b ≡ true → (a ≡ true) × (b ≡ true)
      both_true true true e = (refl, refl)
      both_true true false e = absurd (true≢false (sym e))
      both_true false b e = absurd (true≢false (sym e))

  -- a value that isn't 0 is true
  pub not_zero : (e : Expr) → truth widths values e ≡ true → own_value widths values e ≢ 0
  not_zero e t z = true≢false (sym t ∙ ap (λ (n : ℕ). not (n == 0)) z)

  pub is_true : (e : Expr) → own_value widths values e ≢ 0 → truth widths values e ≡ true
  is_true e h = elim (cases_Bool (own_value widths values e == 0)) [
    | inl z ↦ absurd (h (eqb-true (own_value widths values e) 0 z))
    | inr n ↦ ap not n
  ]
