use Rattle.port_conditions.proofs.Kept.{formula_below}
use Rattle.port_conditions.proofs.laws.an_allowed_formula_uses_signals_of_its_table.Goals as goal

pub returns : goal.returns
returns c widths limit f place h used =
    formula_below widths limit place (λ e. c.used_places_are_those_of_the_used_signals.ensures.valid widths e place) f h
    used
