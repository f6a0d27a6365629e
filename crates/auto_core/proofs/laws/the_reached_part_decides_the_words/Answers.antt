use Rattle.auto_core.proofs.Words.{same_words, same_part}
use Rattle.auto_core.proofs.laws.the_reached_part_decides_the_words.Goals as goal

pub returns-clause-part : goal.returns-clause-part
returns-clause-part g c = λ m states graph w h. same_words m states graph h w

pub returns-clause-machines : goal.returns-clause-machines
returns-clause-machines g c = λ m n states others graph w h k. same_part m n states others graph w h k
