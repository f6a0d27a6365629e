use Rattle.unit_reader.specs.inner.Namesakes.{AreNoted}
use Rattle.unit_reader.proofs.namesakes.note_names.Given as goal

abbrev pub invariant-tokens : goal.invariant-tokens
invariant-tokens l = AreNoted l.text l.tokens l.place l.names
