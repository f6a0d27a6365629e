use Rattle.std.proofs.Common.{ℕ, [], ◌∷◌, refl, arith}
use Rattle.psl_meaning.specs.Word.{Letter, valuation}
use Rattle.psl_meaning.specs.Sequence.{Tight}
use Rattle.psl_meaning.specs.SequenceSugar.{next_with}
use Rattle.psl_meaning.specs.Examples.{widths, a}
use Rattle.psl_meaning.proofs.examples.a_goto_ends_at_its_last_count.Goals as goal

abbrev letter : ℕ → Letter
letter x = valuation (x ∷ [])

-- a letter without a, and one with
half : Tight widths (next_with a) (letter 0 ∷ letter 1 ∷ [])
half = (
  letter 0 ∷ [],
  letter 1 ∷ [],
  refl,
  (1, (letter 0 ∷ [], [], refl, (letter 0, refl, λ e. absurd (omega arith)), refl)),
  (letter 1, refl, λ e. absurd (omega arith)),
)

pub returns-clause-of_the_second : goal.returns-clause-of_the_second
returns-clause-of_the_second c = (letter 0 ∷ letter 1 ∷ [], letter 0 ∷ letter 1 ∷ [], refl, half, half)
