use Rattle.std.proofs.Common.{◌↔◌, sym, subst}
use Rattle.std.proofs.lemmas.List.Elements.{All-contains}
use Rattle.psl_meaning.specs.Sequence.{CoreSere}
use Rattle.psl_rewrite.specs.Meaning.{meant_core}
use Rattle.sequence_cores.specs.Counted.{counted_as}
use Rattle.sequence_tables.specs.Renamed.{booleans_of}
use Rattle.sequence_tables.specs.Steps.{HasSteps}
use Rattle.port_formulas.specs.Chosen.{position_in}
use Rattle.port_formulas.specs.Over.{over_expr}
use Rattle.port_steps.proofs.Names.{IsKnown, keeps_literals, told_apart}
use Rattle.port_steps.proofs.Booleans.{counted_known}
use Rattle.port_steps.proofs.Cores.{counted_alike}
use Rattle.port_steps.proofs.Places.{places_named}
use Rattle.port_steps.proofs.laws.a_sequence_over_its_signals_counts_the_same.Goals as goal

pub returns-clause-places : goal.returns-clause-places
returns-clause-places c all r = places_named (position_in all) r

pub returns-clause-steps : goal.returns-clause-steps
returns-clause-steps c all r k only =
    let counted = meant_core (counted_as r) in
    let known = counted_known all r only in
    let booleans = booleans_of counted in
    subst (λ (s : CoreSere). HasSteps counted k ↔ HasSteps s k) (sym (counted_alike (position_in all) r))
    (c.a_renamed_sequence_has_as_many_steps.ensures (λ e. over_expr all e) counted k
    (keeps_literals (position_in all))
    (λ a b of_a of_b same. told_apart all a b (All-contains (IsKnown all) booleans a known of_a)
    (All-contains (IsKnown all) booleans b known of_b) same))
