use Rattle.std.proofs.Common.{refl}
use Rattle.automata_product.specs.declared.side.Side.TheVariants.{Left, Right}
use Rattle.sere_automata.specs.Concat.{concat_machine}
use Rattle.sere_automata.proofs.ConcatWords.{concat_words}
use Rattle.sere_automata.proofs.Counts.{concat_left, concat_right}
use Rattle.sere_automata.proofs.laws.the_concatenation_accepts_one_list_after_the_other.Goals as goal

pub returns-clause-words : goal.returns-clause-words
returns-clause-words g c = λ m n w.
    concat_words m n (c.renamed_lists_have_the_renamed_edges.ensures Left)
    (c.renamed_lists_have_the_renamed_edges-2.ensures Right)
    (λ q v. c.a_copy_of_a_machine_accepts_the_same.ensures n (concat_machine m n) Right q v
    (record { accepts = λ s. refl; edges = λ s. refl }))
    w

pub returns-clause-left : goal.returns-clause-left
returns-clause-left g c = λ m n p. concat_left m n p

pub returns-clause-right : goal.returns-clause-right
returns-clause-right g c = λ m n q. concat_right m n q
