-- The steps of a base form over the signals at some places.
use Rattle.std.proofs.Common.{◌≡◌, ℕ, Bool, true, false, List, refl, sym, subst}
use Rattle.std.specs.Prelude.{◌↔◌, ◌||◌, IsTrue}
use Rattle.std.proofs.lemmas.Bool.{false≢true}
use Rattle.psl_model.specs.Sere.{Sere}
use Rattle.psl_model.specs.Formula.{Formula, bool, not, and, or, implies, iff, seq, suffix, always, never, eventually}
use Rattle.psl_model.specs.Formula.{next, event, until, before, abort}
use Rattle.psl_model.specs.Uses.{expr_uses, sere_uses, formula_uses}
use Rattle.psl_model.specs.declared.formulas.Reach.TheVariants as reach
use Rattle.psl_rewrite.specs.Base as plain
use Rattle.psl_rewrite.specs.Base.{Base}
use Rattle.psl_rewrite.specs.BaseForm.{base_form_of, or_form, suffix_sere, always_false}
use Rattle.port_formulas.specs.Chosen.{UsesOnly, position_in}
use Rattle.port_formulas.specs.Over.{over, over_sere}
use Rattle.formula_limits.specs.Steps.{SequenceHasSteps, HasSteps}
use Rattle.mbac_compile.proofs.Counts.{same_suffix}

abbrev HaveSame : Base → Base → Type 0
HaveSame a b = (k : ℕ) → HasSteps a k ↔ HasSteps b k

self : (A : Type 0) → A ↔ A
self A = (λ a. a, λ a. a)

both_same : (a b c d : Base) → HaveSame a b → HaveSame c d → HaveSame (plain.and a c) (plain.and b d)
both_same a b c d p q k = (
  λ h. (h.0, h.1, (p h.0).0 h.2, (q h.1).0 h.3, h.4),
  λ h. (h.0, h.1, (p h.0).1 h.2, (q h.1).1 h.3, h.4),
)

behind_same : (r s : Sere) (c d : Base) → ((k : ℕ) → SequenceHasSteps r k ↔ SequenceHasSteps s k) → HaveSame c d →
    HaveSame (plain.suffix r c) (plain.suffix s d)
behind_same r s c d p q k = (
  λ h. (h.0, h.1, (p h.0).0 h.2, (q h.1).0 h.3, h.4),
  λ h. (h.0, h.1, (p h.0).1 h.2, (q h.1).1 h.3, h.4),
)

or_first : (a b : Bool) → IsTrue a → IsTrue (a || b)
or_first true b h = refl
or_first false b h = absurd (false≢true h)

or_second : (a b : Bool) → IsTrue b → IsTrue (a || b)
or_second true b h = refl
or_second false b h = h

later_uses : (later : Bool) (place : ℕ) (r : Sere) → IsTrue (sere_uses place (suffix_sere later r)) →
    IsTrue (sere_uses place r)
later_uses false place r h = h
later_uses true place r h = pick (sere_uses place r) h
  where
    pick : (a : Bool) → IsTrue (a || false) → IsTrue a
    pick true h = refl
    pick false h = h

module _ (all : List ℕ)
    (law : (r : Sere) (k : ℕ) → UsesOnly all (λ place. sere_uses place r) →
    SequenceHasSteps (over_sere all r) k ↔ SequenceHasSteps r k) where
  or_same : (f g : Formula) (l r k s : Base) → HaveSame l k → HaveSame r s →
      HaveSame (or_form (over all f) (over all g) l r) (or_form f g k s)
  or_same (bool e) g l r k s p q = q
  or_same f g l r k s p q = p

  suffix_same : (later : Bool) (r : Sere) → UsesOnly all (λ place. sere_uses place r) → (k : ℕ) →
      SequenceHasSteps (suffix_sere later (over_sere all r)) k ↔ SequenceHasSteps (suffix_sere later r) k
  suffix_same later r uses k =
      subst (λ (s : Sere). SequenceHasSteps s k ↔ SequenceHasSteps (suffix_sere later r) k)
      (sym (same_suffix (position_in all) later r))
      (law (suffix_sere later r) k (λ place used. uses place (later_uses later place r used)))

  pub same_steps : (f : Formula) → UsesOnly all (λ place. formula_uses place f) →
      HaveSame (base_form_of (over all f)) (base_form_of f)
  same_steps (bool e) uses k = self (k ≡ 0)
  same_steps (not f) uses k = self (k ≡ 0)
  same_steps (and f g) uses k =
      both_same (base_form_of (over all f)) (base_form_of f) (base_form_of (over all g)) (base_form_of g)
      (same_steps f (λ place used. uses place (or_first (formula_uses place f) (formula_uses place g) used)))
      (same_steps g (λ place used. uses place (or_second (formula_uses place f) (formula_uses place g) used))) k
  same_steps (or f g) uses k =
      or_same f g (base_form_of (over all f)) (base_form_of (over all g)) (base_form_of f) (base_form_of g)
      (same_steps f (λ place used. uses place (or_first (formula_uses place f) (formula_uses place g) used)))
      (same_steps g (λ place used. uses place (or_second (formula_uses place f) (formula_uses place g) used))) k
  same_steps (implies f g) uses k =
      same_steps g (λ place used. uses place (or_second (formula_uses place f) (formula_uses place g) used)) k
  same_steps (iff f g) uses k = self (k ≡ 0)
  same_steps (seq r s) uses k = self (k ≡ 0)
  same_steps (suffix r later f) uses k =
      behind_same (suffix_sere later (over_sere all r)) (suffix_sere later r) (base_form_of (over all f))
      (base_form_of f)
      (suffix_same later r (λ place used. uses place (or_first (sere_uses place r) (formula_uses place f) used)))
      (same_steps f (λ place used. uses place (or_second (sere_uses place r) (formula_uses place f) used))) k
  same_steps (always f) uses k = same_steps f uses k
  same_steps (never (seq r s)) uses k =
      behind_same (over_sere all r) r (plain.bool always_false) (plain.bool always_false) (λ k. law r k uses)
      (λ k. self (k ≡ 0)) k
  same_steps (never f) uses k = self (k ≡ 0)
  same_steps (eventually (seq r s)) uses k = law r k uses
  same_steps (eventually f) uses k = self (k ≡ 0)
  same_steps (next s reach.One low high f) uses k = same_steps f uses k
  same_steps (next s reach.All low high f) uses k = same_steps f uses k
  same_steps (next s reach.Some low high f) uses k = self (k ≡ 0)
  same_steps (event on s reach.One low high f) uses k =
      same_steps f (λ place used. uses place (or_second (expr_uses place on) (formula_uses place f) used)) k
  same_steps (event on s reach.All low high f) uses k =
      same_steps f (λ place used. uses place (or_second (expr_uses place on) (formula_uses place f) used)) k
  same_steps (event on s reach.Some low high f) uses k = self (k ≡ 0)
  same_steps (until s overlap f g) uses k =
      same_steps f (λ place used. uses place (or_first (formula_uses place f) (formula_uses place g) used)) k
  same_steps (before s false f g) uses k = self (k ≡ 0)
  same_steps (before s true f g) uses k = self (k ≡ 0)
  same_steps (abort f on) uses k =
      same_steps f (λ place used. uses place (or_first (formula_uses place f) (expr_uses place on) used)) k
