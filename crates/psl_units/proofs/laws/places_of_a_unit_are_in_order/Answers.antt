use Rattle.psl_units.proofs.InOrder.{unit_in_order}
use Rattle.psl_units.proofs.laws.places_of_a_unit_are_in_order.Goals as goal

pub returns : goal.returns
returns c = λ text tokens raw h.
    unit_in_order raw (c.a_unit_names_its_tokens_in_order.ensures.ascend text tokens raw h)
