-- A signal's position among the places, and what stands there.
use Rattle.std.proofs.Common.{◌≡◌, ◌⊎◌, inl, inr, ℕ, zero, suc, ◌<◌, ◌≤◌, ◌^◌, true, eqb, List, [], ◌∷◌}
use Rattle.std.proofs.Common.{length, get_or, refl, ap, ◌∙◌, arith}
use Rattle.std.specs.Prelude.{slice_index, Contains}
use Rattle.std.proofs.lemmas.Bool.{cases_lt, eq-eqb, eqb-true}
use Rattle.std.proofs.lemmas.List.{get_or-map}
use Rattle.std.proofs.lemmas.List.Sums.{passes_at_first, fails_before_first}
use Rattle.psl_model.specs.Value.{FitWidths}
use Rattle.port_formulas.specs.Chosen.{chosen, position_in}

pub position_within : (places : List ℕ) (s : ℕ) → Contains places s → position_in places s < length places
position_within places s (k, within, here) = pick (cases_lt (position_in places s) (length places))
  where
    pick : (position_in places s < length places) ⊎ (length places ≤ position_in places s) →
        position_in places s < length places
    pick (inl less) = less
    pick (inr past) =
        let fails = fails_before_first (λ place. eqb place s) places k s (omega arith) in
        absurd (let same : eqb (get_or places k s) s ≡ true = ap (λ p. eqb p s) here ∙ eq-eqb s s refl in cc)

pub place_at_position : (places : List ℕ) (s : ℕ) → Contains places s →
    slice_index places (position_in places s) ≡ s
place_at_position places s there =
    eqb-true (slice_index places (position_in places s)) s
    (passes_at_first (λ place. eqb place s) places 0 (position_within places s there))

pub chosen_at_position : (places values : List ℕ) (s : ℕ) → Contains places s →
    slice_index (chosen places values) (position_in places s) ≡ slice_index values s
chosen_at_position places values s there =
    get_or-map (λ place. slice_index values place) places (position_in places s) 0 0 (position_within places s there)
    ∙ ap (slice_index values) (place_at_position places s there)

pub length-chosen : (places values : List ℕ) → length (chosen places values) ≡ length places
length-chosen [] values = refl
length-chosen (place ∷ places) values = ap suc (length-chosen places values)

-- ---- values that fit

fit_at : (widths values : List ℕ) → FitWidths widths values → (place : ℕ) →
    slice_index values place < 2 ^ slice_index widths place
fit_at [] [] fit place = omega arith
fit_at [] (value ∷ values) fit place = absurd fit
fit_at (width ∷ widths) [] fit place = absurd fit
fit_at (width ∷ widths) (value ∷ values) fit zero = fit.0
fit_at (width ∷ widths) (value ∷ values) fit (suc place) = fit_at widths values fit.1 place

pub chosen_fit : (places widths values : List ℕ) → FitWidths widths values →
    FitWidths (chosen places widths) (chosen places values)
chosen_fit [] widths values fit = tt
chosen_fit (place ∷ places) widths values fit =
    (fit_at widths values fit place, chosen_fit places widths values fit)
