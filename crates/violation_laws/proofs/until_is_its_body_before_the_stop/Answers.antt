use Rattle.psl_meaning.specs.FormulaSugar.{core_formula_of}
use Rattle.violation_laws.proofs.Untils.{at_the_end}
use Rattle.violation_laws.proofs.until_is_its_body_before_the_stop.Goals as goal

pub returns : goal.returns
returns c widths s f e trace =
    at_the_end c.bar_of_bar_is_the_word.ensures c.everywhere_is_each_place.ensures widths (core_formula_of f) e s trace
