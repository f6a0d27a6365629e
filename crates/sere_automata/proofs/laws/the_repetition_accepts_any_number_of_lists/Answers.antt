use Rattle.sere_automata.specs.declared.states.Round.TheVariants.{Inner}
use Rattle.sere_automata.proofs.RepeatWords.{repeat_words, repeat_unrolled}
use Rattle.sere_automata.proofs.Counts.{repeat_new, repeat_inner}
use Rattle.sere_automata.proofs.laws.the_repetition_accepts_any_number_of_lists.Goals as goal

pub returns-clause-words : goal.returns-clause-words
returns-clause-words g c = λ m w. repeat_words m (c.renamed_lists_have_the_renamed_edges.ensures Inner) w

pub returns-clause-unrolled : goal.returns-clause-unrolled
returns-clause-unrolled g c = λ m w. repeat_unrolled m (c.renamed_lists_have_the_renamed_edges.ensures Inner) w

pub returns-clause-new : goal.returns-clause-new
returns-clause-new g c = λ m. repeat_new m

pub returns-clause-inner : goal.returns-clause-inner
returns-clause-inner g c = λ m p. repeat_inner m p
