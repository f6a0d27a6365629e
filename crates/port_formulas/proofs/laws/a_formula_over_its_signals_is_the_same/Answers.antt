use Rattle.port_formulas.proofs.Sugar.{formula_over}
use Rattle.port_formulas.proofs.laws.a_formula_over_its_signals_is_the_same.Goals as goal

pub returns : goal.returns
returns c places widths f w only = formula_over widths places f only w
