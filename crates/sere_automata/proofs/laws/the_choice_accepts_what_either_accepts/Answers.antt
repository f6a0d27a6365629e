use Rattle.std.proofs.Common.{refl}
use Rattle.sere_automata.specs.declared.states.Choice.TheVariants.{Left, Right}
use Rattle.sere_automata.specs.OneOf.{one_of_machine}
use Rattle.sere_automata.proofs.OneOfWords.{one_of_words}
use Rattle.sere_automata.proofs.Counts.{one_of_new, one_of_left, one_of_right}
use Rattle.sere_automata.proofs.laws.the_choice_accepts_what_either_accepts.Goals as goal

pub returns-clause-words : goal.returns-clause-words
returns-clause-words g c = λ m n w.
    one_of_words m n (c.renamed_lists_have_the_renamed_edges.ensures Left)
    (c.renamed_lists_have_the_renamed_edges-2.ensures Right)
    (λ p v. c.a_copy_of_a_machine_accepts_the_same.ensures m (one_of_machine m n) Left p v
    (record { accepts = λ s. refl; edges = λ s. refl }))
    (λ q v. c.a_copy_of_a_machine_accepts_the_same-2.ensures n (one_of_machine m n) Right q v
    (record { accepts = λ s. refl; edges = λ s. refl }))
    w

pub returns-clause-new : goal.returns-clause-new
returns-clause-new g c = λ m n. one_of_new m n

pub returns-clause-left : goal.returns-clause-left
returns-clause-left g c = λ m n p. one_of_left m n p

pub returns-clause-right : goal.returns-clause-right
returns-clause-right g c = λ m n q. one_of_right m n q
