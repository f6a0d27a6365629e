-- Operators of formulas over Booleans, and the operators of expressions that stand for them.
use Rattle.std.proofs.Common.{◌≡◌, ◌≢◌, ◌⊎◌, inl, inr, ℕ, zero, suc, List, Option, Some, None, refl, sym, subst, arith}
use Rattle.std.specs.Prelude.{IsSome, IfSome, option_map, ◌==◌, ◌&&◌}
use Rattle.std.specs.Prelude as prelude
use Rattle.std.proofs.lemmas.Bool.Decides.{nat_tests}
use Rattle.psl_model.specs.Expr.{Expr}
use Rattle.psl_model.specs.Value.{own_value, bit_of}
use Rattle.psl_meaning.specs.Word.{Letter, valuation, top, bottom, Word, bar_letter, letter_at}
use Rattle.psl_meaning.specs.Sequence.{Holds}
use Rattle.psl_meaning.specs.Formula.{bool, not, and, Satisfies}
use Rattle.psl_meaning.specs.FormulaSugar.{implies}
use Rattle.psl_rewrite.specs.BaseForm.{not_expr, and_expr, iff_expr}
use Rattle.psl_rewrite.proofs.KnownLaws.{or_opens, or_closes}
use Rattle.psl_rewrite.proofs.WordLaws.{WordLaws}
use Rattle.psl_rewrite.proofs.Congruence.{Implied}

-- ---- numbers

pub zero_or : (x : ℕ) → (x ≡ 0) ⊎ (x ≢ 0)
zero_or zero = inl refl
zero_or (suc x) = inr (λ e. absurd (omega (arith, e)))

is_not : (x : ℕ) → x ≡ 0 → bit_of (x == 0) ≢ 0
is_not x h e = absurd (grind (arith, nat_tests, h, e))

not_is : (x : ℕ) → bit_of (x == 0) ≢ 0 → x ≢ 0 → ⊥
not_is x h e = h (grind (arith, nat_tests, e))

both_are : (x y : ℕ) → x ≢ 0 → y ≢ 0 → bit_of (prelude.not (x == 0) && prelude.not (y == 0)) ≢ 0
both_are x y h k e = absurd (grind (arith, nat_tests, h, k, e))

are_left : (x y : ℕ) → bit_of (prelude.not (x == 0) && prelude.not (y == 0)) ≢ 0 → x ≢ 0
are_left x y h e = h (grind (arith, nat_tests, e))

are_right : (x y : ℕ) → bit_of (prelude.not (x == 0) && prelude.not (y == 0)) ≢ 0 → y ≢ 0
are_right x y h e = h (grind (arith, nat_tests, e))

same_zero : (x y : ℕ) → x ≡ 0 → y ≡ 0 → bit_of (bit_of (x == 0) == bit_of (y == 0)) ≢ 0
same_zero x y h k e = absurd (grind (arith, nat_tests, h, k, e))

same_other : (x y : ℕ) → x ≢ 0 → y ≢ 0 → bit_of (bit_of (x == 0) == bit_of (y == 0)) ≢ 0
same_other x y h k e = absurd (grind (arith, nat_tests, h, k, e))

same_left : (x y : ℕ) → bit_of (bit_of (x == 0) == bit_of (y == 0)) ≢ 0 → x ≢ 0 → y ≡ 0 → ⊥
same_left x y h k e = h (grind (arith, nat_tests, k, e))

same_right : (x y : ℕ) → bit_of (bit_of (x == 0) == bit_of (y == 0)) ≢ 0 → x ≡ 0 → y ≢ 0 → ⊥
same_right x y h k e = h (grind (arith, nat_tests, k, e))

-- ---- letters: the option of a letter that isn't missing and no bottom

module _ (laws : WordLaws) (widths : List ℕ) where
  not_at : (e : Expr) (o : Option Letter) → IsSome o → o ≢ Some bottom →
      ¬ IfSome (option_map bar_letter o) (Holds widths e) → IfSome o (Holds widths (not_expr e))
  not_at e None some clean s = absurd (cc (some))
  not_at e (Some bottom) some clean s = absurd (clean refl)
  not_at e (Some top) some clean s = tt
  not_at e (Some (valuation v)) some clean s = split (zero_or (own_value widths v e))
    where
      split : (own_value widths v e ≡ 0) ⊎ (own_value widths v e ≢ 0) → own_value widths v (not_expr e) ≢ 0
      split (inl is0) = is_not (own_value widths v e) is0
      split (inr not0) = absurd (s not0)

  at_not : (e : Expr) (o : Option Letter) → IsSome o → o ≢ Some bottom → IfSome o (Holds widths (not_expr e)) →
      ¬ IfSome (option_map bar_letter o) (Holds widths e)
  at_not e None some clean s t = absurd (cc (some))
  at_not e (Some bottom) some clean s t = absurd (clean refl)
  at_not e (Some top) some clean s t = t
  at_not e (Some (valuation v)) some clean s t = not_is (own_value widths v e) s t

  and_at : (a b : Expr) (o : Option Letter) → IfSome o (Holds widths a) × IfSome o (Holds widths b) →
      IfSome o (Holds widths (and_expr a b))
  and_at a b None s = tt
  and_at a b (Some bottom) s = s.0
  and_at a b (Some top) s = tt
  and_at a b (Some (valuation v)) s = both_are (own_value widths v a) (own_value widths v b) s.0 s.1

  at_and : (a b : Expr) (o : Option Letter) → IfSome o (Holds widths (and_expr a b)) →
      IfSome o (Holds widths a) × IfSome o (Holds widths b)
  at_and a b None s = (tt, tt)
  at_and a b (Some bottom) s = (s, s)
  at_and a b (Some top) s = (tt, tt)
  at_and a b (Some (valuation v)) s = (
    are_left (own_value widths v a) (own_value widths v b) s,
    are_right (own_value widths v a)
        (own_value widths v b) s,
  )

  -- ---- words

  pub not_boolean : (e : Expr) → Implied widths (not (bool e)) (bool (not_expr e))
  not_boolean e w some clean s =
      not_at e (letter_at w 0) some (clean 0)
      (subst (λ (o : Option Letter). ¬ IfSome o (Holds widths e)) (laws.bar_letters w 0) s)

  pub boolean_not : (e : Expr) → Implied widths (bool (not_expr e)) (not (bool e))
  boolean_not e w some clean s =
      subst (λ (o : Option Letter). ¬ IfSome o (Holds widths e)) (sym (laws.bar_letters w 0))
      (at_not e (letter_at w 0) some (clean 0) s)

  pub and_boolean : (a b : Expr) → Implied widths (and (bool a) (bool b)) (bool (and_expr a b))
  and_boolean a b w some clean s = and_at a b (letter_at w 0) s

  pub boolean_and : (a b : Expr) → Implied widths (bool (and_expr a b)) (and (bool a) (bool b))
  boolean_and a b w some clean s = at_and a b (letter_at w 0) s

  -- `a -> b` at a letter
  Arrow : Expr → Expr → Option Letter → Type 0
  Arrow a b o = ¬ ((¬ ¬ IfSome (option_map bar_letter o) (Holds widths a)) × (¬ IfSome o (Holds widths b)))

  arrow_opens : (a b : Expr) (w : Word) → Satisfies widths (implies (bool a) (bool b)) w → Arrow a b (letter_at w 0)
  unfolding Arrow
  arrow_opens a b w s =
      let opened = or_opens laws.bar_of_bar widths (not (bool a)) (bool b) w s in
      subst (λ (o : Option Letter). ¬ ((¬ ¬ IfSome o (Holds widths a)) × (¬ IfSome (letter_at w 0) (Holds widths b))))
      (laws.bar_letters w 0) opened

  arrow_closes : (a b : Expr) (w : Word) → Arrow a b (letter_at w 0) → Satisfies widths (implies (bool a) (bool b)) w
  unfolding Arrow
  arrow_closes a b w s =
      or_closes laws.bar_of_bar widths (not (bool a)) (bool b) w
      (subst (λ (o : Option Letter). ¬
      ((¬ ¬ IfSome o (Holds widths a)) × (¬ IfSome (letter_at w 0) (Holds widths b)))) (sym (laws.bar_letters w 0)) s)

  iff_at : (a b : Expr) (o : Option Letter) → IsSome o → o ≢ Some bottom → Arrow a b o → Arrow b a o →
      IfSome o (Holds widths (iff_expr a b))
  unfolding Arrow
  iff_at a b None some clean s t = tt
  iff_at a b (Some bottom) some clean s t = absurd (clean refl)
  iff_at a b (Some top) some clean s t = tt
  iff_at a b (Some (valuation v)) some clean s t =
      split (zero_or (own_value widths v a)) (zero_or (own_value widths v b))
    where
      split : (own_value widths v a ≡ 0) ⊎ (own_value widths v a ≢ 0) →
          (own_value widths v b ≡ 0) ⊎ (own_value widths v b ≢ 0) → own_value widths v (iff_expr a b) ≢ 0
      split (inl x) (inl y) = same_zero (own_value widths v a) (own_value widths v b) x y
      split (inr x) (inr y) = same_other (own_value widths v a) (own_value widths v b) x y
      split (inr x) (inl y) = absurd (s ((λ n. n x), (λ n. n y)))
      split (inl x) (inr y) = absurd (t ((λ n. n y), (λ n. n x)))

  at_iff_left : (a b : Expr) (o : Option Letter) → o ≢ Some bottom → IfSome o (Holds widths (iff_expr a b)) →
      Arrow a b o
  unfolding Arrow
  at_iff_left a b None clean s (p, q) = q tt
  at_iff_left a b (Some bottom) clean s (p, q) = absurd (clean refl)
  at_iff_left a b (Some top) clean s (p, q) = q tt
  at_iff_left a b (Some (valuation v)) clean s (p, q) = p (λ x. split x (zero_or (own_value widths v b)))
    where
      split : own_value widths v a ≢ 0 → (own_value widths v b ≡ 0) ⊎ (own_value widths v b ≢ 0) → ⊥
      split x (inl y) = same_left (own_value widths v a) (own_value widths v b) s x y
      split x (inr y) = q y

  at_iff_right : (a b : Expr) (o : Option Letter) → o ≢ Some bottom → IfSome o (Holds widths (iff_expr a b)) →
      Arrow b a o
  unfolding Arrow
  at_iff_right a b None clean s (p, q) = q tt
  at_iff_right a b (Some bottom) clean s (p, q) = absurd (clean refl)
  at_iff_right a b (Some top) clean s (p, q) = q tt
  at_iff_right a b (Some (valuation v)) clean s (p, q) = p (λ y. split y (zero_or (own_value widths v a)))
    where
      split : own_value widths v b ≢ 0 → (own_value widths v a ≡ 0) ⊎ (own_value widths v a ≢ 0) → ⊥
      split y (inl x) = same_right (own_value widths v a) (own_value widths v b) s x y
      split y (inr x) = q x

  pub iff_boolean : (a b : Expr) →
      Implied widths (and (implies (bool a) (bool b)) (implies (bool b) (bool a))) (bool (iff_expr a b))
  iff_boolean a b w some clean (s, t) =
      iff_at a b (letter_at w 0) some (clean 0) (arrow_opens a b w s) (arrow_opens b a w t)

  pub boolean_iff : (a b : Expr) →
      Implied widths (bool (iff_expr a b)) (and (implies (bool a) (bool b)) (implies (bool b) (bool a)))
  boolean_iff a b w some clean s = (
    arrow_closes a b w (at_iff_left a b (letter_at w 0) (clean 0) s),
    arrow_closes b a w
        (at_iff_right a b (letter_at w 0) (clean 0) s),
  )
