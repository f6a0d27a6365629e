use Rattle.std.specs.Prelude.{map}
use Rattle.psl_meaning.specs.Word.{valuation, finite, with_tops}
use Rattle.psl_meaning.specs.FormulaSugar.{core_formula_of}
use Rattle.psl_rewrite.specs.Meaning.{named}
use Rattle.psl_rewrite.proofs.Sides.{refutes_and}
use Rattle.psl_rewrite.proofs.violations.a_conjunction_is_violated_by_a_side.Goals as goal

pub returns-clause-so_far : goal.returns-clause-so_far
returns-clause-so_far c widths f g trace =
    refutes_and widths (core_formula_of (named f)) (core_formula_of (named g)) (with_tops (map valuation trace))

pub returns-clause-whole : goal.returns-clause-whole
returns-clause-whole c widths f g trace =
    refutes_and widths (core_formula_of (named f)) (core_formula_of (named g)) (finite (map valuation trace))
