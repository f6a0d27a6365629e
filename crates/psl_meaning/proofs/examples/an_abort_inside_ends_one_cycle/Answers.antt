use Rattle.std.proofs.Common.{◌≢◌, ◌<◌, ℕ, zero, suc, [], ◌∷◌, Some, refl, inl, inr, map, arith}
use Rattle.psl_meaning.specs.Word.{Word, with_tops, from, valuation, top, letter_at}
use Rattle.psl_meaning.specs.Formula.{Satisfies, CoreFormula, bool, abort}
use Rattle.psl_meaning.specs.Examples.{widths, a, r, trace_of_both}
use Rattle.psl_meaning.proofs.Words.{letter_at-from}
use Rattle.psl_meaning.proofs.Always.{everywhere_places, places_everywhere}
use Rattle.psl_meaning.proofs.examples.an_abort_inside_ends_one_cycle.Goals as goal

abbrev body : CoreFormula
body = abort (bool a) r

abbrev three : Word
three = with_tops (map valuation (trace_of_both (1 ∷ 0 ∷ 0 ∷ []) (0 ∷ 1 ∷ 0 ∷ [])))

abbrev two : Word
two = with_tops (map valuation (trace_of_both (1 ∷ 0 ∷ []) (0 ∷ 1 ∷ [])))

no_tops : (j : ℕ) → j < 2 → letter_at three j ≢ Some top
no_tops zero below = λ is_top. absurd (cc)
no_tops (suc zero) below = λ is_top. absurd (cc)
no_tops (suc (suc j)) below = absurd (omega arith)

third : ¬ Satisfies widths body (from 2 three)
third (inl holds) = holds refl
third (inr (zero, on, cut)) = on refl
third (inr (suc j, on, cut)) = cut refl

pub returns-clause-by_three : goal.returns-clause-by_three
returns-clause-by_three c all = everywhere_places widths body three all 2 refl no_tops third

each : (k : ℕ) → Satisfies widths body (from k two)
each zero = inl λ e. absurd (omega arith)
each (suc zero) = inr (0, (λ e. absurd (omega arith)), tt)
each (suc (suc k)) = inl (rw (letter_at-from (suc (suc k)) two) tt)

pub returns-clause-not_by_two : goal.returns-clause-not_by_two
returns-clause-not_by_two c refuted =
    refuted (places_everywhere widths body two (λ k reached tops_after no. no (each k)))
