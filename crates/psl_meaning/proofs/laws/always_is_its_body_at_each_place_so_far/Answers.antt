use Rattle.std.proofs.Common.{map}
use Rattle.psl_meaning.specs.Word.{tops, valuation}
use Rattle.psl_meaning.specs.FormulaSugar.{core_formula_of}
use Rattle.psl_meaning.proofs.Always.{run_places, places_run_tops, reached_tops}
use Rattle.psl_meaning.proofs.laws.always_is_its_body_at_each_place_so_far.Goals as goal

pub returns : goal.returns
returns c widths f trace = (
  (λ stands k within refuted. stands
      (λ all. run_places widths (core_formula_of f) trace tops all k within (reached_tops (map valuation trace) k)
      refuted)),
  (λ each refuted. refuted (places_run_tops widths (core_formula_of f) trace each)),
)
