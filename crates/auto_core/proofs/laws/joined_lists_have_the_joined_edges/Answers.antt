use Rattle.auto_core.proofs.EdgeMembers.{has_joined}
use Rattle.auto_core.proofs.laws.joined_lists_have_the_joined_edges.Goals as goal

pub returns : goal.returns
returns g c = λ f. has_joined f
