-- A walk over sites ends with their first fault, or with all that is known after them.
use Rattle.std.proofs.Common.{◌≡◌, Option, None, Some, List, [], ◌∷◌, ◌++◌, map, refl, ap, ◌∙◌}
use Rattle.std.specs.List.{flat_map, slice_get}
use Rattle.unit_rules.specs.declared.errors.UnitError.{UnitError}
use Rattle.unit_rules.specs.Source.{Source}
use Rattle.unit_rules.specs.Sites.{Site}
use Rattle.unit_rules.specs.Known.{Known, after_site, known_after}
use Rattle.unit_rules.specs.Faults.{faults_at, faults_in}
use Rattle.unit_rules.specs.inner.Judging.{going, stopped, state, visit_all}

visit_all-stopped : (s : Source) (e : UnitError) (xs : List Site) → visit_all s (stopped e) xs ≡ stopped e
visit_all-stopped s e [] = refl
visit_all-stopped s e (x ∷ xs) = visit_all-stopped s e xs

pub walk_of_sites : (s : Source) (k : Known) (xs : List Site) → visit_all s (going k) xs
    ≡ state (slice_get (faults_in s k xs) 0) (known_after s k xs)
walk_of_sites s k [] = refl
walk_of_sites s k (x ∷ xs) = by (faults_at s k x) (walk_of_sites s (after_site s k x) xs)
    (λ e. visit_all-stopped s e xs)
  where
    by : (fs : List UnitError) → visit_all s (going (after_site s k x)) xs
        ≡ state (slice_get (faults_in s (after_site s k x) xs) 0) (known_after s (after_site s k x) xs)
        → ((e : UnitError) → visit_all s (stopped e) xs ≡ stopped e)
        → visit_all s (state (slice_get fs 0) (after_site s k x)) xs
        ≡ state (slice_get (fs ++ faults_in s (after_site s k x) xs) 0) (known_after s (after_site s k x) xs)
    by [] rest stops = rest
    by (f ∷ fs) rest stops = stops f

pub flat_map-of_map : {X Y Z : Type 0} (f : X → Y) (g : Y → List Z) (xs : List X) → flat_map (λ x. g (f x)) xs
    ≡ flat_map g (map f xs)
flat_map-of_map f g [] = refl
flat_map-of_map f g (x ∷ xs) = ap (λ rest. g (f x) ++ rest) (flat_map-of_map f g xs)

no_first : (fs : List UnitError) → slice_get fs 0 ≡ None → fs ≡ []
no_first [] p = refl
no_first (f ∷ fs) p = absurd (cc p)

-- a walk that goes on met no fault
pub went_on : (s : Source) (k m : Known) (xs : List Site) → going m ≡ visit_all s (going k) xs → (faults_in s k xs ≡ [])
    × (m ≡ known_after s k xs)
went_on s k m xs p = by (slice_get (faults_in s k xs) 0) refl (p ∙ walk_of_sites s k xs)
  where
    by : (o : Option UnitError) → slice_get (faults_in s k xs) 0 ≡ o → going m ≡ state o (known_after s k xs)
        → (faults_in s k xs ≡ []) × (m ≡ known_after s k xs)
    by None q e = (no_first (faults_in s k xs) q, cc e)
    by (Some f) q e = absurd (cc e)

-- a walk that stopped met its fault first
pub stopped_first : (s : Source) (k : Known) (e : UnitError) (xs : List Site) → stopped e ≡ visit_all s (going k) xs
    → slice_get (faults_in s k xs) 0 ≡ Some e
stopped_first s k e xs p = by (slice_get (faults_in s k xs) 0) refl (p ∙ walk_of_sites s k xs)
  where
    by : (o : Option UnitError) → slice_get (faults_in s k xs) 0 ≡ o → stopped e ≡ state o (known_after s k xs)
        → slice_get (faults_in s k xs) 0 ≡ Some e
    by None q r = absurd (cc r)
    by (Some f) q r = q ∙ cc r
