use Rattle.std.proofs.Common.{◌<◌, ℕ, zero, suc, [], ◌∷◌, refl, map, arith}
use Rattle.psl_meaning.specs.Word.{Word, with_tops, from, valuation}
use Rattle.psl_meaning.specs.Formula.{Satisfies, bool}
use Rattle.psl_meaning.specs.Examples.{widths, a, trace_of_both}
use Rattle.psl_meaning.proofs.examples.a_strong_until_pends.Goals as goal

word : Word
word = with_tops (map valuation (trace_of_both (1 ∷ 1 ∷ []) (0 ∷ 0 ∷ [])))

before : (j : ℕ) → j < 2 → Satisfies widths (bool a) (from j word)
unfolding word
before zero below = λ e. absurd (omega arith)
before (suc zero) below = λ e. absurd (omega arith)
before (suc (suc j)) below = absurd (omega arith)

pub returns-clause-not_yet : goal.returns-clause-not_yet
unfolding word
returns-clause-not_yet c refuted = refuted (2, refl, tt, before)
