use Rattle.psl_meaning.specs.Word.{ended, tops}
use Rattle.port_formulas.proofs.Sugar.{violation_over}
use Rattle.port_formulas.proofs.laws.a_formula_over_its_signals_is_violated_alike.Goals as goal

pub returns-clause-weakly : goal.returns-clause-weakly
returns-clause-weakly c places widths f trace only = violation_over widths places f tops trace only

pub returns-clause-whole : goal.returns-clause-whole
returns-clause-whole c places widths f trace only = violation_over widths places f ended trace only
