use Rattle.std.specs.Prelude.{map}
use Rattle.psl_meaning.specs.Word.{valuation, ended, tops}
use Rattle.psl_meaning.specs.FormulaSugar.{core_formula_of}
use Rattle.psl_rewrite.specs.Meaning.{named}
use Rattle.psl_rewrite.proofs.Sides.{refutes_or_bool}
use Rattle.psl_rewrite.proofs.violations.an_alternative_is_violated_where_its_test_fails.Goals as goal

pub returns-clause-so_far : goal.returns-clause-so_far
returns-clause-so_far c widths e f values rest =
    let twice = c.bar_of_bar_is_the_word.ensures in
    refutes_or_bool twice widths e (core_formula_of (named f)) values (map valuation rest) tops

pub returns-clause-whole : goal.returns-clause-whole
returns-clause-whole c widths e f values rest =
    let twice = c.bar_of_bar_is_the_word.ensures in
    refutes_or_bool twice widths e (core_formula_of (named f)) values (map valuation rest) ended
