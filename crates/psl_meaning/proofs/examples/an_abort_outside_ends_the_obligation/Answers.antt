use Rattle.std.proofs.Common.{[], ◌∷◌, refl, inr, arith}
use Rattle.psl_meaning.specs.Examples.{widths, a, trace_of_both}
use Rattle.psl_meaning.proofs.Always.{holds_by_test}
use Rattle.psl_meaning.proofs.examples.an_abort_outside_ends_the_obligation.Goals as goal

pub returns : goal.returns
returns c refuted =
    refuted (inr (1, (λ e. absurd (omega arith)), holds_by_test widths a (trace_of_both (1 ∷ []) (0 ∷ [])) refl))
