use Rattle.std.proofs.Common.{arith}
use Rattle.psl_meaning.specs.Word.{ended}
use Rattle.psl_meaning.specs.FormulaSugar.{core_formula_of}
use Rattle.psl_meaning.proofs.Always.{run_places, places_run_ended, reached_ended}
use Rattle.psl_meaning.proofs.laws.always_is_its_body_at_each_place.Goals as goal

pub returns : goal.returns
returns c widths f trace = (
  (λ stands k within refuted. stands
      (λ all. run_places widths (core_formula_of f) trace ended all k (omega arith) (reached_ended trace k within)
      refuted)),
  (λ each refuted. refuted (places_run_ended widths (core_formula_of f) trace each)),
)
