use Rattle.psl_rewrite.specs.Meaning.{named}
use Rattle.property_circuits.specs.Starts.{Weak}
use Rattle.property_circuits.proofs.Rising.{weak_later}
use Rattle.property_circuits.proofs.Stopping.{violated_up_to_stop}
use Rattle.property_circuits.proofs.laws.a_start_violates_up_to_its_stop.Goals as goal

pub returns-clause-later : goal.returns-clause-later
returns-clause-later c widths trace f clear i n last ordered stop =
    violated_up_to_stop (Weak widths trace f) clear i n last
    (λ m below. weak_later widths trace f i m last (c.weak_violation_persists.ensures widths (named f)) below)
    ordered stop
