-- Sites without a fault.
use Rattle.std.proofs.Common.{◌≡◌, ◌||◌, Bool, true, false, Option, None, List, [], ◌∷◌, ◌++◌, refl, ap, sym, ◌∙◌}
use Rattle.std.proofs.Common.{append_assoc}
use Rattle.std.specs.List.{slice_get}
use Rattle.psl_grammar.specs.RawUnit.{RawUnit}
use Rattle.unit_rules.specs.declared.errors.UnitError.{UnitError}
use Rattle.unit_rules.specs.Source.{Source}
use Rattle.unit_rules.specs.Sites.{Site}
use Rattle.unit_rules.specs.Known.{Known, after_site, known_after}
use Rattle.unit_rules.specs.Faults.{where_broken, faults_at, faults_in, unit_faults}
use Rattle.unit_rules.specs.Limits.{or_else, limit_fault, refusal}

pub both_none : {X : Type 0} (xs ys : List X) → xs ++ ys ≡ [] → (xs ≡ []) × (ys ≡ [])
both_none [] ys p = (refl, p)
both_none (x ∷ xs) ys p = absurd (cc p)

pub unbroken : (b : Bool) (e : UnitError) → where_broken b e ≡ [] → b ≡ false
unbroken true e p = absurd (cc p)
unbroken false e p = refl

pub neither : (a b : Bool) → a || b ≡ false → (a ≡ false) × (b ≡ false)
neither true b p = absurd (cc p)
neither false b p = (refl, p)

pub joined_faults : (s : Source) (k : Known) (xs ys : List Site)
    → faults_in s k (xs ++ ys) ≡ faults_in s k xs ++ faults_in s (known_after s k xs) ys
joined_faults s k [] ys = refl
joined_faults s k (x ∷ xs) ys =
    ap (λ more. faults_at s k x ++ more) (joined_faults s (after_site s k x) xs ys)
    ∙ sym (append_assoc (faults_at s k x) (faults_in s (after_site s k x) xs)
    (faults_in s (known_after s (after_site s k x) xs) ys))

none_first : (faults : List UnitError) (more : Option UnitError) → or_else (slice_get faults 0) more ≡ None
    → faults ≡ []
none_first [] more p = refl
none_first (fault ∷ faults) more p = absurd (cc p)

pub no_faults : (s : Source) (raw : RawUnit) → refusal s raw ≡ None → unit_faults s raw ≡ []
no_faults s raw p = none_first (unit_faults s raw) (limit_fault s raw.items) p
