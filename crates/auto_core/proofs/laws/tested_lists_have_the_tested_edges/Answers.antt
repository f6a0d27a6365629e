use Rattle.auto_core.proofs.EdgeMembers.{has_tested}
use Rattle.auto_core.proofs.laws.tested_lists_have_the_tested_edges.Goals as goal

pub returns : goal.returns
returns g c = λ test. has_tested test
