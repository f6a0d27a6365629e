-- What a built formula says, its base form over the signals that it uses says of these.
use Rattle.std.proofs.Common.{◌≢◌, ℕ, zero, suc, List, [], ◌∷◌, map, refl}
use Rattle.std.specs.Prelude.{◌↔◌}
use Rattle.psl_model.specs.Formula.{Formula}
use Rattle.psl_meaning.specs.Word.{Valuation, valuation, finite, with_tops, Reaches}
use Rattle.psl_meaning.specs.Violation.{WeaklyViolates, Violates}
use Rattle.psl_rewrite.specs.BaseForm.{base_form_of}
use Rattle.psl_rewrite.specs.Meaning.{named}
use Rattle.psl_rewrite.specs.SameMeaning.{MeanTheSame, HasNoBottom}

no_bottom_finite : (trace : List Valuation) → HasNoBottom (finite (map valuation trace))
no_bottom_finite [] k = λ e. absurd (cc (e))
no_bottom_finite (v ∷ trace) zero = λ e. absurd (cc (e))
no_bottom_finite (v ∷ trace) (suc k) = no_bottom_finite trace k

no_bottom_tops : (trace : List Valuation) → HasNoBottom (with_tops (map valuation trace))
no_bottom_tops [] k = λ e. absurd (cc (e))
no_bottom_tops (v ∷ trace) zero = λ e. absurd (cc (e))
no_bottom_tops (v ∷ trace) (suc k) = no_bottom_tops trace k

tops_begin : (trace : List Valuation) → Reaches (with_tops (map valuation trace)) 0
tops_begin [] = refl
tops_begin (v ∷ trace) = refl

swapped : {A B C : Type 0} → (A ↔ ¬ B) → (C ↔ B) → A ↔ ¬ C
swapped {A} {B} {C} p q = (λ (a : A) (c : C). p.0 a (q.0 c), λ (n : ¬ C). p.1 (λ (b : B). n (q.1 b)))

-- a formula is violated by the traces that violate its base form
pub weakly_same : (widths : List ℕ) (f : Formula) → MeanTheSame (named (base_form_of f)) f → (A : Type 0) →
    (trace : List Valuation) → A ↔ WeaklyViolates widths f trace →
    A ↔ WeaklyViolates widths (named (base_form_of f)) trace
weakly_same widths f same A trace is =
    swapped is (same widths (with_tops (map valuation trace)) (tops_begin trace) (no_bottom_tops trace))

pub wholly_same : (widths : List ℕ) (f : Formula) → MeanTheSame (named (base_form_of f)) f →
    (A : Type 0) → (trace : List Valuation) → trace ≢ [] → A ↔ Violates widths f trace →
    A ↔ Violates widths (named (base_form_of f)) trace
wholly_same widths f same A [] some is = absurd (some refl)
wholly_same widths f same A (v ∷ trace) some is =
    swapped is (same widths (finite (map valuation (v ∷ trace))) refl (no_bottom_finite (v ∷ trace)))

pub some_mapped : (g : Valuation → Valuation) (trace : List Valuation) → trace ≢ [] → map g trace ≢ []
some_mapped g [] some e = some refl
some_mapped g (v ∷ trace) some e = absurd (cc (e))
