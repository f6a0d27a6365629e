use Rattle.automata_product.proofs.BothWords.{both_words}
use Rattle.automata_product.proofs.Counts.{both_count}
use Rattle.automata_product.proofs.laws.the_product_accepts_what_both_accept.Goals as goal

pub returns-clause-words : goal.returns-clause-words
returns-clause-words g c = λ m n w.
    both_words m n c.a_union_has_the_literals_of_both.ensures.passes
    (c.joined_lists_have_the_joined_edges.ensures (λ p q. (p, q))) w

pub returns-clause-edges : goal.returns-clause-edges
returns-clause-edges g c = λ m n p q. both_count m n p q
