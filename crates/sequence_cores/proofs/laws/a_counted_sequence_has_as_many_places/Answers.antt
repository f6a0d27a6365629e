use Rattle.sequence_cores.proofs.Counts.{counted_places}
use Rattle.sequence_cores.proofs.laws.a_counted_sequence_has_as_many_places.Goals as goal

pub returns : goal.returns
returns c = counted_places
