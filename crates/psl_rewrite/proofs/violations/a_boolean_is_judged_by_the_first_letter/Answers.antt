use Rattle.std.specs.Prelude.{map}
use Rattle.psl_meaning.specs.Word.{valuation, ended, tops}
use Rattle.psl_rewrite.proofs.Sides.{refutes_bool}
use Rattle.psl_rewrite.proofs.violations.a_boolean_is_judged_by_the_first_letter.Goals as goal

pub returns-clause-so_far : goal.returns-clause-so_far
returns-clause-so_far c widths e values rest = refutes_bool widths e values (map valuation rest) tops

pub returns-clause-whole : goal.returns-clause-whole
returns-clause-whole c widths e values rest = refutes_bool widths e values (map valuation rest) ended
