use Rattle.psl_meaning.specs.FormulaSugar.{core_formula_of}
use Rattle.psl_meaning.specs.SequenceSugar.{core_of}
use Rattle.violation_laws.proofs.Matches.{at_the_end}
use Rattle.violation_laws.proofs.suffix_is_its_body_after_each_match.Goals as goal

pub returns : goal.returns
returns c widths r f trace = at_the_end widths (core_of r) (core_formula_of f) trace
