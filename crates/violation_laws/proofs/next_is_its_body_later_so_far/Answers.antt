use Rattle.psl_meaning.specs.FormulaSugar.{core_formula_of}
use Rattle.violation_laws.proofs.Nexts.{next_tops, all_tops}
use Rattle.violation_laws.proofs.next_is_its_body_later_so_far.Goals as goal

pub returns-clause-one : goal.returns-clause-one
returns-clause-one c widths s k high f trace =
    next_tops c.bar_of_bar_is_the_word.ensures widths s k (core_formula_of f) trace

pub returns-clause-all : goal.returns-clause-all
returns-clause-all c widths s low high f trace ordered =
    all_tops c.bar_of_bar_is_the_word.ensures widths s low high (core_formula_of f) trace ordered
