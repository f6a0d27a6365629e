use Rattle.std.proofs.Common.{◌≡◌, ◌-◌, ℕ, zero, suc, List, [], ◌∷◌, refl, sym, ap, ◌∙◌, subst, replicate, length}
use Rattle.std.proofs.Common.{arith}
use Rattle.psl_meaning.specs.Word.{Letter, with_tops, first, valuation, top, Reaches}
use Rattle.psl_meaning.specs.Sequence.{CoreSere, bool, concat, Holds}
use Rattle.psl_meaning.specs.Formula.{SomePrefix}
use Rattle.psl_meaning.specs.Examples.{widths, a, always_false}
use Rattle.psl_meaning.proofs.examples.an_impossible_end_is_reported_where_it_comes.Goals as goal

abbrev impossible : CoreSere
impossible = concat (bool a) (bool always_false)

abbrev letter : ℕ → Letter
letter x = valuation (x ∷ [])

-- n tops past the one letter
only_tops : (n : ℕ) → first (suc n) (with_tops (letter 1 ∷ [])) ≡ letter 1 ∷ replicate n top
only_tops zero = refl
only_tops (suc n) =
    let count : suc (suc n) - 1 ≡ suc n = omega arith in
    ap (λ (k : ℕ). letter 1 ∷ replicate k top) count

reaches : (n : ℕ) → Reaches (with_tops (letter 1 ∷ replicate n top)) 1
reaches zero = refl
reaches (suc n) = refl

first_two : (n : ℕ) → first 2 (with_tops (letter 1 ∷ replicate n top)) ≡ letter 1 ∷ top ∷ []
first_two zero = refl
first_two (suc n) =
    let none : 2 - suc (suc (length (replicate n top))) ≡ 0 = omega arith in
    ap (λ (k : ℕ). letter 1 ∷ top ∷ replicate k top) none

with_top : (n : ℕ) → SomePrefix widths impossible (with_tops (letter 1 ∷ replicate n top))
with_top n = (
  1,
  reaches n,
  (letter 1 ∷ [], top ∷ [], first_two n, (letter 1, refl, λ e. absurd (omega arith)), (top, refl, tt)),
)

pub returns-clause-not_before : goal.returns-clause-not_before
returns-clause-not_before c refuted =
    refuted (λ n reached. subst (λ (xs : List Letter). SomePrefix widths impossible (with_tops xs)) (sym (only_tops n))
    (with_top n))

-- no prefix is a letter with a and then one with false
second : (n : ℕ) (x y : Letter) → first (suc n) (with_tops (letter 1 ∷ letter 0 ∷ [])) ≡ x ∷ y ∷ [] →
    ¬ Holds widths always_false y
second zero x y e h = absurd (cc)
second (suc n) x y e h =
    let same : letter 0 ≡ y = cc in
    subst (λ (z : Letter). Holds widths always_false z) (sym same) h refl

no_prefix : ¬ SomePrefix widths impossible (with_tops (letter 1 ∷ letter 0 ∷ []))
no_prefix (n, reached, (u, v, split, (x, is_x, hx), (y, is_y, hy))) =
    let whole : first (suc n) (with_tops (letter 1 ∷ letter 0 ∷ [])) ≡ x ∷ y ∷ [] = split ∙ (rw (is_x, is_y) refl) in
    second n x y whole hy

pub returns-clause-at_the_end : goal.returns-clause-at_the_end
returns-clause-at_the_end c satisfied = no_prefix (satisfied 1 refl)
