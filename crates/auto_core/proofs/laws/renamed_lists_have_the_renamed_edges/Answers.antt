use Rattle.auto_core.proofs.EdgeMembers.{has_renamed}
use Rattle.auto_core.proofs.laws.renamed_lists_have_the_renamed_edges.Goals as goal

pub returns : goal.returns
returns g c = λ f. has_renamed f
