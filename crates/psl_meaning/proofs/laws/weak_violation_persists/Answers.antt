use Rattle.std.proofs.Common.{List, ◌++◌, map, subst}
use Rattle.std.proofs.lemmas.List.{map-append}
use Rattle.psl_meaning.specs.Word.{Letter, valuation, with_tops}
use Rattle.psl_meaning.specs.Formula.{Satisfies}
use Rattle.psl_meaning.specs.FormulaSugar.{core_formula_of}
use Rattle.psl_meaning.proofs.Order.{satisfied_above, tops_above_longer}
use Rattle.psl_meaning.proofs.laws.weak_violation_persists.Goals as goal

pub returns : goal.returns
returns c widths f trace more refuted satisfied =
    let longer = subst (λ (xs : List Letter). Satisfies widths (core_formula_of f) (with_tops xs))
    (map-append valuation trace more) satisfied in
    refuted (satisfied_above widths (core_formula_of f) (with_tops (map valuation trace ++ map valuation more))
    (with_tops (map valuation trace)) (tops_above_longer (map valuation trace) (map valuation more)) longer)
