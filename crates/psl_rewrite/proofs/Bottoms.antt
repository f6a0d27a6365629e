-- A list with a bottom tightly satisfies no sequence.
use Rattle.std.proofs.Common.{◌≡◌, ◌≢◌, inl, inr, ℕ, zero, suc, List, [], ◌∷◌, ◌++◌, Option, Some, None, refl, sym}
use Rattle.std.proofs.Common.{◌∙◌, subst, arith}
use Rattle.std.specs.Prelude.{slice_get, option_map, IfSome, IsSome}
use Rattle.psl_model.specs.Expr.{Expr}
use Rattle.psl_meaning.specs.Word.{Letter, valuation, top, bottom, Word, bar, bar_letter, first, letter_at}
use Rattle.psl_meaning.specs.Sequence as sequence
use Rattle.psl_meaning.specs.Sequence.{CoreSere, Holds, Copies, Tight}
use Rattle.psl_meaning.specs.Formula.{bool, not, strong, suffix}
use Rattle.psl_rewrite.specs.BaseForm.{always_false}
use Rattle.psl_rewrite.proofs.Lists.{reaches_to_bar, reaches_from_bar}
use Rattle.psl_rewrite.proofs.WordLaws.{WordLaws, suffix_begins}
use Rattle.psl_rewrite.proofs.Congruence.{Implied}

abbrev pub Clean : List Letter → Type 0
Clean [] = Unit {0}
Clean (x ∷ xs) = (x ≢ bottom) × Clean xs

clean_joined : (u v : List Letter) → Clean u → Clean v → Clean (u ++ v)
clean_joined [] v h k = k
clean_joined (x ∷ u) v h k = (h.0, clean_joined u v h.1 k)

clean_copies : (P : List Letter → Type 0) → ((xs : List Letter) → P xs → Clean xs) → (n : ℕ) (w : List Letter) →
    Copies P n w → Clean w
clean_copies P each zero w none = subst Clean (sym none) tt
clean_copies P each (suc n) w (u, v, split, p, rest) =
    subst Clean (sym split) (clean_joined u v (each u p) (clean_copies P each n v rest))

clean_fused : (u v : List Letter) (a : Letter) → Clean (u ++ a ∷ []) → Clean (a ∷ v) → Clean (u ++ a ∷ v)
clean_fused [] v a h k = k
clean_fused (x ∷ u) v a h k = (h.0, clean_fused u v a h.1 k)

clean_letter : (widths : List ℕ) (e : Expr) (a : Letter) → Holds widths e a → a ≢ bottom
clean_letter widths e a h is = subst (λ (x : Letter). Holds widths e x) is h

pub tight_clean : (widths : List ℕ) (r : CoreSere) (w : List Letter) → Tight widths r w → Clean w
tight_clean widths (sequence.bool e) w (a, one, s) = subst Clean (sym one) (clean_letter widths e a s, tt)
tight_clean widths sequence.empty w s = subst Clean (sym s) tt
tight_clean widths (sequence.concat r s) w (u, v, split, left, right) =
    subst Clean (sym split) (clean_joined u v (tight_clean widths r u left) (tight_clean widths s v right))
tight_clean widths (sequence.fuse r s) w (u, v, a, split, left, right) =
    subst Clean (sym split) (clean_fused u v a (tight_clean widths r (u ++ a ∷ []) left)
    (tight_clean widths s (a ∷ v) right))
tight_clean widths (sequence.or r s) w (inl left) = tight_clean widths r w left
tight_clean widths (sequence.or r s) w (inr right) = tight_clean widths s w right
tight_clean widths (sequence.both r s) w (left, right) = tight_clean widths r w left
tight_clean widths (sequence.star r) w (n, copies) =
    clean_copies (Tight widths r) (λ xs s. tight_clean widths r xs s) n w copies

clean_place : (w : List Letter) (k : ℕ) → Clean w → slice_get w k ≢ Some bottom
clean_place [] k h e = absurd (cc)
clean_place (x ∷ w) zero h e = h.0 (some_inside e)
  where
    some_inside : Some x ≡ Some bottom → x ≡ bottom
    some_inside e = cc
clean_place (x ∷ w) (suc k) h e = clean_place w k h.1 e

-- the last letter of a tight list is no bottom
pub tight_last : (laws : WordLaws) (widths : List ℕ) (r : CoreSere) (w : Word) (k : ℕ) →
    Tight widths r (first (suc k) w) → letter_at w k ≢ Some bottom
tight_last laws widths r w k s e =
    clean_place (first (suc k) w) k (tight_clean widths r (first (suc k) w) s)
    (laws.prefix_letters w (suc k) k (omega arith) ∙ e)

module _ (laws : WordLaws) (widths : List ℕ) where
  -- `false` at a place whose bar isn't bottom
  no_false : (o : Option Letter) → IsSome o → o ≢ Some bottom → option_map bar_letter o ≢ Some bottom →
      IfSome o (Holds widths always_false) → ⊥
  no_false None some clean barred s = absurd (cc (some))
  no_false (Some bottom) some clean barred s = s
  no_false (Some top) some clean barred s = barred refl
  no_false (Some (valuation v)) some clean barred s = s refl

  pub never_suffix : (r : CoreSere) → Implied widths (not (strong r)) (suffix r (bool always_false))
  never_suffix r w some clean none j reached ends = absurd (none (j, reaches_to_bar w j reached, ends))

  pub suffix_never : (r : CoreSere) → Implied widths (suffix r (bool always_false)) (not (strong r))
  suffix_never r w some clean each (n, reached, ends) =
      let here = reaches_from_bar w n reached in
      let wrong = each n here ends in
      no_false (letter_at w n) here (clean n)
      (λ e. tight_last laws widths r (bar w) n ends (laws.bar_letters w n ∙ e))
      (subst (λ (o : Option Letter). IfSome o (Holds widths always_false)) (suffix_begins laws w n) wrong)
