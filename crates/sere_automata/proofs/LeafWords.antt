-- The machines of no letter and of one letter.
use Rattle.std.proofs.Common.{◌≡◌, ◌↔◌, List, [], ◌∷◌, length, get_or, Contains, refl, sym, ap, subst, ℕ, zero, suc}
use Rattle.std.proofs.Common.{◌<◌, arith}
use Rattle.auto_core.specs.declared.labels.Literal.{Literal}
use Rattle.auto_core.specs.Machine.{Letter, Passes, AcceptsFrom, Accepts}
use Rattle.sere_automata.specs.declared.states.LeafState.TheVariants.{End}
use Rattle.sere_automata.specs.Empty.{empty_machine}
use Rattle.sere_automata.specs.Leaf.{leaf_machine}
use Rattle.sere_automata.proofs.Follow.{none}

-- the empty list alone
pub empty_words : (w : List Letter) → Accepts empty_machine w ↔ (w ≡ [])
empty_words [] = ((λ h. refl), (λ e. refl))
empty_words (a ∷ w) = ((λ h. absurd (none (h.0, h.1) h.2)), (λ e. absurd (cc)))

only : {X : Type 0} (x y : X) → Contains (x ∷ []) y → x ≡ y
only x y h = at h.0 h.1 h.2 where
  at : (k : ℕ) → k < length (x ∷ []) → get_or (x ∷ []) k y ≡ y → x ≡ y
  at zero lt e = e
  at (suc k) lt e = absurd (omega arith)

module _ (label : List Literal) where
  from_end : (w : List Letter) → AcceptsFrom (leaf_machine label) End w → w ≡ []
  from_end [] h = refl
  from_end (a ∷ w) h = absurd (none (h.0, h.1) h.2)

  to_leaf : (w : List Letter) → Accepts (leaf_machine label) w → (a : Letter) × (w ≡ a ∷ []) × Passes label a
  to_leaf [] h = absurd (cc)
  to_leaf (a ∷ w) h =
      let e = only (label, End) (h.0, h.1) h.2 in (
        a,
        ap (λ v. a ∷ v) (from_end w (subst (λ t. AcceptsFrom (leaf_machine label) t w) (sym (ap (λ x. x.1) e)) h.4)),
        subst (λ l. Passes l a) (sym (ap (λ x. x.0) e)) h.3,
      )

  leaf_from : (a : Letter) → Passes label a → Accepts (leaf_machine label) (a ∷ [])
  leaf_from a h = (label, End, (0, omega arith, refl), h, refl)

  -- the lists of one letter that passes the label, and no others
  pub leaf_words : (w : List Letter) → Accepts (leaf_machine label) w ↔ ((a : Letter) × (w ≡ a ∷ []) × Passes label a)
  leaf_words w = (
    (λ h. to_leaf w h),
    (λ (a, e, h). subst (λ w. Accepts (leaf_machine label) w) (sym e) (leaf_from a h)),
  )
