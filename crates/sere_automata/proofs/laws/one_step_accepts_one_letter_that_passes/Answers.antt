use Rattle.sere_automata.proofs.Counts.{leaf_few}
use Rattle.sere_automata.proofs.LeafWords.{leaf_words}
use Rattle.sere_automata.proofs.laws.one_step_accepts_one_letter_that_passes.Goals as goal

pub returns-clause-words : goal.returns-clause-words
returns-clause-words c = λ label w. leaf_words label w

pub returns-clause-edges : goal.returns-clause-edges
returns-clause-edges c = leaf_few
