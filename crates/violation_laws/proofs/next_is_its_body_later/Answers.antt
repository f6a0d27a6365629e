use Rattle.psl_meaning.specs.FormulaSugar.{core_formula_of}
use Rattle.violation_laws.proofs.Nexts.{one_ended, all_ended}
use Rattle.violation_laws.proofs.next_is_its_body_later.Goals as goal

pub returns-clause-one : goal.returns-clause-one
returns-clause-one c widths s k high f trace some =
    one_ended c.bar_of_bar_is_the_word.ensures widths s k (core_formula_of f) trace some

pub returns-clause-all : goal.returns-clause-all
returns-clause-all c widths s low high f trace ordered some =
    all_ended c.bar_of_bar_is_the_word.ensures widths s low high (core_formula_of f) trace ordered some
