use Rattle.port_formulas.proofs.Places.{chosen_fit}
use Rattle.port_formulas.proofs.laws.chosen_values_fit.Goals as goal

pub returns : goal.returns
returns c = chosen_fit
