use Rattle.auto_core.proofs.Copies.{copy_words}
use Rattle.auto_core.proofs.laws.a_copy_of_a_machine_accepts_the_same.Goals as goal

pub returns : goal.returns
returns g c = λ m k f s w copy. copy_words m k f copy w s
