use Rattle.psl_units.specs.inner.Places.{plain_names}
use Rattle.psl_units.specs.inner.Scopes.{AreNames}
use Rattle.unit_rules.specs.Source.{source}
use Rattle.psl_units.proofs.names.names_of.Given as goal

abbrev pub invariant-loop-place : goal.invariant-loop-place
invariant-loop-place l = AreNames (source l.text l.tokens) l.items l.place (plain_names l.names)
