use Rattle.std.proofs.Common.{ℕ, [], ◌∷◌, refl, arith}
use Rattle.psl_model.specs.Expr.{unary}
use Rattle.psl_model.specs.declared.operators.UnOp.TheVariants.{Not}
use Rattle.psl_meaning.specs.Word.{Letter, valuation}
use Rattle.psl_meaning.specs.Sequence.{Tight, star, bool}
use Rattle.psl_meaning.specs.SequenceSugar.{next_with}
use Rattle.psl_meaning.specs.Examples.{widths, a}
use Rattle.psl_meaning.proofs.examples.an_equal_count_goes_on_to_the_next.Goals as goal

abbrev letter : (x y : ℕ) → Letter
letter x y = valuation (x ∷ y ∷ [])

without : Tight widths (star (bool (unary Not a))) (letter 0 0 ∷ [])
without = (1, (letter 0 0 ∷ [], [], refl, (letter 0 0, refl, λ e. absurd (omega arith)), refl))

one : Tight widths (next_with a) (letter 0 0 ∷ letter 1 0 ∷ [])
one = (letter 0 0 ∷ [], letter 1 0 ∷ [], refl, without, (letter 1 0, refl, λ e. absurd (omega arith)))

pub returns-clause-of_one : goal.returns-clause-of_one
returns-clause-of_one c = (
  letter 0 0 ∷ letter 1 0 ∷ letter 0 0 ∷ [],
  letter 0 1 ∷ [],
  refl,
  (letter 0 0 ∷ letter 1 0 ∷ [], letter 0 0 ∷ [], refl, one, without),
  (letter 0 1, refl, λ e. absurd (omega arith)),
)
