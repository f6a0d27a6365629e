use Rattle.std.proofs.Common.{[], ◌∷◌, refl, arith}
use Rattle.psl_meaning.specs.Word.{tops}
use Rattle.psl_meaning.specs.Examples.{widths, a, trace_of_a}
use Rattle.psl_meaning.proofs.Always.{refuted_by_zero}
use Rattle.psl_meaning.proofs.examples.always_a_needs_each_a.Goals as goal

pub returns-clause-by_a_zero : goal.returns-clause-by_a_zero
returns-clause-by_a_zero c =
    refuted_by_zero widths a (trace_of_a (1 ∷ 1 ∷ 0 ∷ [])) tops (2, 0 ∷ [], omega arith, refl, refl)
