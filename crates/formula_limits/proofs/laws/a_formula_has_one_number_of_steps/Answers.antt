use Rattle.psl_rewrite.specs.Meaning.{meant_core}
use Rattle.sequence_cores.specs.Counted.{counted_as}
use Rattle.formula_limits.proofs.One.{one_number}
use Rattle.formula_limits.proofs.laws.a_formula_has_one_number_of_steps.Goals as goal

pub returns : goal.returns
returns c =
    one_number (λ r k l p q. c.a_sequence_has_one_number_of_steps.ensures (meant_core (counted_as r)) k l p q)
