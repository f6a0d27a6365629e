use Rattle.std.proofs.Common.{◌≡◌}
use Rattle.psl_rewrite.specs.View.{base_of}
use Rattle.formula_limits.specs.Places.{HasTooManyPlaces}
use Rattle.property_circuits.proofs.Small.{large_same}
use Rattle.property_circuits.proofs.circuits.check_circuit.Goals as goal

pub returns-in-None-clause-too_many_places : goal.returns-in-None-clause-too_many_places
returns-in-None-clause-too_many_places c n p = (
  (λ e. absurd (c.small_circuit.ensures.no_place n p e)),
  (λ h. absurd (c.the_first_large_sequence_is_one.ensures.none (base_of c.args.base.now) n p c.in-None.ensures h)),
)

pub returns-in-Some-clause-too_many_places : goal.returns-in-Some-clause-too_many_places
returns-in-Some-clause-too_many_places c n p =
    let f = base_of c.args.base.now in
    let s = c.in-Some.large.sequence in
    let q = c.in-Some.large.places in
    let here : HasTooManyPlaces f s q = c.in-Some.ensures in (
      (λ e.
          let number : s ≡ n = cc (e) in
          let places : q ≡ p = cc (e) in
          large_same f s n q p number places here),
      (λ h.
          let same = c.the_first_large_sequence_is_one.ensures.one f s n q p here h in
          let number : s ≡ n = same.0 in
          let places : q ≡ p = same.1 in
          cc (number, places)),
    )
