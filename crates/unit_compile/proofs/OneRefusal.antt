-- The directives of a unit have one first refusal at most, and none where each is taken.
use Rattle.std.proofs.Common.{◌≡◌, ◌≢◌, ◌<◌, ◌≤◌, ◌⊎◌, ◌+◌, ◌-◌, ℕ, suc, inl, inr, List, [], ◌∷◌, Option, None, Some}
use Rattle.std.proofs.Common.{refl, sym, ap, ◌∙◌, subst, arith}
use Rattle.std.specs.Prelude.{slice_get}
use Rattle.psl_model.specs.Formula.{Formula}
use Rattle.psl_model.specs.Unit.{Directive}
use Rattle.psl_model.specs.declared.refusals.Refusal.{Refusal}
use Rattle.psl_model.specs.declared.refusals.Refusal.TheVariants as refusal
use Rattle.psl_rewrite.specs.Base.{Base}
use Rattle.psl_rewrite.specs.BaseForm.{base_form_of}
use Rattle.simple_subset.specs.Subset.{first_broken, InSubset}
use Rattle.sequence_cores.specs.Places.{told}
use Rattle.formula_limits.specs.Places.{AreSmall, HasTooManyPlaces}
use Rattle.formula_limits.specs.Registers.{budget_of, register_limit}
use Rattle.formula_limits.specs.Steps.{HasSteps, step_limit}
use Rattle.property_circuits.specs.declared.circuits.CircuitError.{CircuitError}
use Rattle.property_circuits.specs.declared.circuits.CircuitError.TheVariants.{TooManyPlaces, Contradiction}
use Rattle.property_circuits.specs.declared.circuits.CircuitError.TheVariants.{SequenceTooLarge, TooManyRegisters}
use Rattle.property_circuits.specs.declared.circuits.CircuitError.TheVariants.{TooManySteps, OutOfMemory}
use Rattle.property_circuits.specs.Refusals.{IsRefusal}
use Rattle.mbac_compile.specs.Built.{IsBuilt}
use Rattle.mbac_compile.specs.Refusals.{IsRefused}
use Rattle.mbac_compile.specs.declared.directives.CheckError.{CheckError}
use Rattle.mbac_compile.specs.declared.directives.CheckError.TheVariants.{Subset, Unbuilt, Circuit}
use Rattle.unit_compile.specs.Directives.{IsRefusedAt, IsTakenAt, FirstRefusal, AreTaken}
use Rattle.unit_compile.specs.Told.{circuit_refusal, check_refusal}

abbrev pub OneNumber : Type 0
OneNumber = (f : Base) (k l : ℕ) → HasSteps f k → HasSteps f l → k ≡ l

abbrev pub OneLarge : Type 0
OneLarge = (f : Base) (m n p q : ℕ) → HasTooManyPlaces f m p → HasTooManyPlaces f n q → (m ≡ n) × (p ≡ q)

abbrev pub NoneLarge : Type 0
NoneLarge = (f : Base) (n p : ℕ) → AreSmall f → ¬ HasTooManyPlaces f n p

none_broken : (f : Formula) → InSubset f → first_broken f ≡ None
none_broken f simple = ap (λ (rules : List ℕ). slice_get rules 0) simple

not_broken : (f : Formula) (rule : ℕ) → InSubset f → first_broken f ≡ Some rule → ⊥
not_broken f rule simple broken = let none = none_broken f simple in cc

one_rule : (o : Option ℕ) (m n : ℕ) → o ≡ Some m → o ≡ Some n → m ≡ n
one_rule o m n p q = cc

-- what a circuit's refusal says of the base form
circuit_part : (f : Formula) (left : ℕ) (error : CircuitError) → Circuit error ≢ Circuit OutOfMemory →
    IsRefused f left (Circuit error) → IsBuilt f × IsRefusal (base_form_of f) left error
circuit_part f left (TooManyPlaces s p) known h = h
circuit_part f left (Contradiction s) known h = h
circuit_part f left (SequenceTooLarge s) known h = h
circuit_part f left (TooManyRegisters n) known h = h
circuit_part f left (TooManySteps n) known h = h
circuit_part f left OutOfMemory known h = absurd (known refl)

module _ (one_number : OneNumber) (one_large : OneLarge) (none_large : NoneLarge) where
  -- ---- circuits

  module _ (number before : ℕ) (f : Base) (left : ℕ) where
    abbrev ToldAlike : (e g : CircuitError) → Type 0
    ToldAlike e g = circuit_refusal number before e ≡ circuit_refusal number before g

    places_and : (s p : ℕ) (g : CircuitError) → Circuit g ≢ Circuit OutOfMemory → HasTooManyPlaces f s p →
        IsRefusal f left g → ToldAlike (TooManyPlaces s p) g
    places_and s p (TooManyPlaces t q) known large h =
        let same = one_large f s t p q large h in
        ap (λ (n : ℕ). refusal.TooManyPlaces number n p) same.0 ∙ ap (λ (n : ℕ). refusal.TooManyPlaces number t n) same.1
    places_and s p (Contradiction t) known large h = absurd h
    places_and s p (SequenceTooLarge t) known large h = absurd h
    places_and s p (TooManyRegisters n) known large h = absurd (none_large f s p h.0 large)
    places_and s p (TooManySteps n) known large h = absurd (none_large f s p h.0 large)
    places_and s p OutOfMemory known large h = absurd (known refl)

    registers_and : (m : ℕ) (g : CircuitError) → Circuit g ≢ Circuit OutOfMemory →
        IsRefusal f left (TooManyRegisters m) → IsRefusal f left g → ToldAlike (TooManyRegisters m) g
    registers_and m (TooManyPlaces t q) known full h = absurd (none_large f t q full.0 h)
    registers_and m (Contradiction t) known full h = absurd h
    registers_and m (SequenceTooLarge t) known full h = absurd h
    registers_and m (TooManyRegisters n) known full h =
        ap (λ (k : ℕ). refusal.TooManyRegisters number k) (full.2 ∙ sym h.2)
    registers_and m (TooManySteps n) known full h = absurd (omega (arith, full.1, h.1))
    registers_and m OutOfMemory known full h = absurd (known refl)

    steps_and : (m : ℕ) (g : CircuitError) → Circuit g ≢ Circuit OutOfMemory →
        IsRefusal f left (TooManySteps m) → IsRefusal f left g → ToldAlike (TooManySteps m) g
    steps_and m (TooManyPlaces t q) known long h = absurd (none_large f t q long.0 h)
    steps_and m (Contradiction t) known long h = absurd h
    steps_and m (SequenceTooLarge t) known long h = absurd h
    steps_and m (TooManyRegisters n) known long h = absurd (omega (arith, long.1, h.1))
    steps_and m (TooManySteps n) known long h =
        let k = long.2 in
        let l = h.2 in
        let same : k.0 ≡ l.0 = one_number f k.0 l.0 k.1 l.1 in
        ap (λ (c : ℕ). refusal.TooManySteps number (told (before + c))) (k.3 ∙ ap told same ∙ sym l.3)
    steps_and m OutOfMemory known long h = absurd (known refl)

    one_circuit : (e g : CircuitError) → Circuit e ≢ Circuit OutOfMemory → Circuit g ≢ Circuit OutOfMemory →
        IsRefusal f left e → IsRefusal f left g → ToldAlike e g
    one_circuit (TooManyPlaces s p) g known other h j = places_and s p g other h j
    one_circuit (Contradiction s) g known other h j = absurd h
    one_circuit (SequenceTooLarge s) g known other h j = absurd h
    one_circuit (TooManyRegisters m) g known other h j = registers_and m g other h j
    one_circuit (TooManySteps m) g known other h j = steps_and m g other h j
    one_circuit OutOfMemory g known other h j = absurd (known refl)

  -- ---- a directive

  module _ (number before : ℕ) (f : Formula) (left : ℕ) where
    one_error : (e g : CheckError) → e ≢ Circuit OutOfMemory → g ≢ Circuit OutOfMemory → IsRefused f left e →
        IsRefused f left g → check_refusal number before e ≡ check_refusal number before g
    one_error (Subset m) (Subset n) known other h j =
        ap (λ (k : ℕ). refusal.Subset number k) (one_rule (first_broken f) m.number n.number h j)
    one_error (Subset m) Unbuilt known other h j = absurd (not_broken f m.number j.simple h)
    one_error (Subset m) (Circuit g) known other h j =
        absurd (not_broken f m.number (circuit_part f left g other j).0.simple h)
    one_error Unbuilt (Subset n) known other h j = absurd (not_broken f n.number h.simple j)
    one_error Unbuilt Unbuilt known other h j = refl
    one_error Unbuilt (Circuit g) known other h j = absurd (h.form (circuit_part f left g other j).0.form)
    one_error (Circuit e) (Subset n) known other h j =
        absurd (not_broken f n.number (circuit_part f left e known h).0.simple j)
    one_error (Circuit e) Unbuilt known other h j = absurd (j.form (circuit_part f left e known h).0.form)
    one_error (Circuit e) (Circuit g) known other h j =
        one_circuit number before (base_form_of f) left e g known other (circuit_part f left e known h).1
        (circuit_part f left g other j).1

  one_here : (number before : ℕ) (d : Directive) (due r : Refusal) → IsRefusedAt number before d due →
      IsRefusedAt number before d r → r ≡ due
  one_here number before d due r h j =
      j.telling
      ∙ one_error number before d.formula (step_limit - before) j.error h.error j.known h.known j.refused h.refused
      ∙ sym h.telling

  one_after : (before a b : ℕ) (d : Directive) → IsTakenAt before d a → IsTakenAt before d b → a ≡ b
  one_after before a b d h j =
      h.added
      ∙ ap (λ (n : ℕ). before + n) (one_number (base_form_of d.formula) h.steps j.steps h.counted j.counted)
      ∙ sym j.added

  taken_unrefused : (before after : ℕ) (d : Directive) → IsTakenAt before d after → (e : CheckError) →
      e ≢ Circuit OutOfMemory → IsRefused d.formula (step_limit - before) e → ⊥
  taken_unrefused before after d t (Subset rule) known h = not_broken d.formula rule.number t.built.simple h
  taken_unrefused before after d t Unbuilt known h = h.form t.built.form
  taken_unrefused before after d t (Circuit (TooManyPlaces s p)) known h =
      none_large (base_form_of d.formula) s p t.small h.1
  taken_unrefused before after d t (Circuit (Contradiction s)) known h = h.1
  taken_unrefused before after d t (Circuit (SequenceTooLarge s)) known h = h.1
  taken_unrefused before after d t (Circuit (TooManyRegisters n)) known h =
      let fits = t.registers in
      omega (arith, fits, h.1.1)
  taken_unrefused before after d t (Circuit (TooManySteps n)) known h =
      let k = h.1.2 in
      let same : t.steps ≡ k.0 = one_number (base_form_of d.formula) t.steps k.0 t.counted k.1 in
      omega (arith, same, t.added, t.within, k.2)
  taken_unrefused before after d t (Circuit OutOfMemory) known h = known refl

  not_both : (number before after : ℕ) (d : Directive) (r : Refusal) → IsTakenAt before d after →
      IsRefusedAt number before d r → ⊥
  not_both number before after d r t h = taken_unrefused before after d t h.error h.known h.refused

  -- ---- directives

  pub one_first : (number before : ℕ) (ds : List Directive) (due r : Refusal) → FirstRefusal number before ds due →
      FirstRefusal number before ds r → r ≡ due
  one_first number before [] due r h j = absurd h
  one_first number before (d ∷ ds) due r (inl h) (inl j) = one_here number before d due r h j
  one_first number before (d ∷ ds) due r (inl h) (inr j) = absurd (not_both number before j.0 d due j.1 h)
  one_first number before (d ∷ ds) due r (inr h) (inl j) = absurd (not_both number before h.0 d r h.1 j)
  one_first number before (d ∷ ds) due r (inr h) (inr j) =
      one_first (suc number) h.0 ds due r h.2
      (subst (λ (n : ℕ). FirstRefusal (suc number) n ds r) (one_after before j.0 h.0 d j.1 h.1) j.2)

  pub taken_is_unrefused : (number before : ℕ) (ds : List Directive) (r : Refusal) → AreTaken before ds →
      FirstRefusal number before ds r → ⊥
  taken_is_unrefused number before [] r t h = h
  taken_is_unrefused number before (d ∷ ds) r t (inl h) = not_both number before t.0 d r t.1 h
  taken_is_unrefused number before (d ∷ ds) r t (inr h) =
      taken_is_unrefused (suc number) h.0 ds r
      (subst (λ (n : ℕ). AreTaken n ds) (one_after before t.0 h.0 d t.1 h.1) t.2) h.2
