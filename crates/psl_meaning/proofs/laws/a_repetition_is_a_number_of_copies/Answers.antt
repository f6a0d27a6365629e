use Rattle.psl_meaning.proofs.Repeat.{star_unfolds, unfolds_star, counted_are, are_counted, unbounded_are}
use Rattle.psl_meaning.proofs.Repeat.{are_unbounded}
use Rattle.psl_meaning.proofs.laws.a_repetition_is_a_number_of_copies.Goals as goal

pub returns-clause-unfolds : goal.returns-clause-unfolds
returns-clause-unfolds c widths r w = (star_unfolds widths r w, unfolds_star widths r w)

pub returns-clause-between : goal.returns-clause-between
returns-clause-between c widths r low high w ordered =
    (counted_are widths r low high w ordered, are_counted widths r low high w ordered)

pub returns-clause-at_least : goal.returns-clause-at_least
returns-clause-at_least c widths r low w = (unbounded_are widths r low w, are_unbounded widths r low w)
