use Rattle.std.proofs.Common.{refl}
use Rattle.automata_product.specs.declared.side.Side.TheVariants.{Left, Right}
use Rattle.automata_product.specs.Fuse.{fuse_machine}
use Rattle.automata_product.proofs.FuseWords.{fuse_words}
use Rattle.automata_product.proofs.Counts.{fuse_left, fuse_right}
use Rattle.automata_product.proofs.laws.the_fusion_accepts_the_overlaps_in_one_letter.Goals as goal

pub returns-clause-words : goal.returns-clause-words
returns-clause-words g c = λ m n w.
    fuse_words m n c.a_union_has_the_literals_of_both.ensures.passes
    (c.joined_lists_have_the_joined_edges.ensures (λ last q. Right q))
    (c.renamed_lists_have_the_renamed_edges.ensures Left)
    (c.tested_lists_have_the_tested_edges.ensures m.accepts)
    (λ q v. c.a_copy_of_a_machine_accepts_the_same.ensures n (fuse_machine m n) Right q v
    (record { accepts = λ s. refl; edges = λ s. refl }))
    w

pub returns-clause-left : goal.returns-clause-left
returns-clause-left g c = λ m n p. fuse_left m n p

pub returns-clause-right : goal.returns-clause-right
returns-clause-right g c = λ m n q. fuse_right m n q
