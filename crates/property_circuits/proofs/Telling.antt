-- Steps as they are told.
use Rattle.std.specs.Prelude.{ℕ, ◌≡◌, ◌≤◌, ◌+◌, ◌^◌, min}
use Rattle.std.proofs.Common.{refl, sym, ◌∙◌, arith}
use Rattle.psl_model.specs.Sere.{Sere}
use Rattle.psl_rewrite.specs.Base.{Base, and, suffix}
use Rattle.formula_limits.specs.Steps.{HasSteps, SequenceHasSteps}
use Rattle.sequence_cores.specs.Places.{told}
use Rattle.property_circuits.specs.Told.{IsTold}

pub told_within : (k : ℕ) → told k ≤ 2 ^ 63
told_within k = omega arith

pub told_twice : (m n : ℕ) → told (told m + told n) ≡ told (m + n)
told_twice m n = omega arith

-- what is told as a small number is that number
pub told_small : (k : ℕ) → told k ≤ 1000000 → told k ≡ k
told_small k small = omega (arith, small)

pub both_told : (f g : Base) (a b steps : ℕ) → IsTold f a → IsTold g b → steps ≡ told (a + b) → IsTold (and f g) steps
both_told f g a b steps one two is =
    let same : told (a + b) ≡ told (told one.0 + told two.0) = cc (one.2, two.2) in
    (one.0 + two.0, (one.0, two.0, one.1, two.1, refl), is ∙ same ∙ told_twice one.0 two.0)

pub behind_told : (r : Sere) (f : Base) (a b steps : ℕ) → SequenceHasSteps r a → IsTold f b →
    steps ≡ told (told a + b) → IsTold (suffix r f) steps
behind_told r f a b steps one two is =
    let same : told (told a + b) ≡ told (told a + told two.0) = cc (two.2) in
    (a + two.0, (a, two.0, one, two.1, refl), is ∙ same ∙ told_twice a two.0)
