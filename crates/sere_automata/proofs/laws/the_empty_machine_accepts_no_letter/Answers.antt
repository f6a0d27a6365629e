use Rattle.sere_automata.proofs.LeafWords.{empty_words}
use Rattle.sere_automata.proofs.laws.the_empty_machine_accepts_no_letter.Goals as goal

pub returns : goal.returns
returns c = empty_words
