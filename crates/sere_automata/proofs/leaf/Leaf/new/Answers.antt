use Rattle.sere_automata.specs.declared.states.LeafState.TheVariants.{Start}
use Rattle.sere_automata.proofs.Counts.{leaf_few}
use Rattle.sere_automata.proofs.LeafWords.{leaf_words}
use Rattle.sere_automata.proofs.leaf.Leaf.new.Goals as goal

pub returns-clause-words : goal.returns-clause-words
returns-clause-words c = λ w. leaf_words c.args.label w

pub returns-clause-few : goal.returns-clause-few
returns-clause-few c = record { start = leaf_few c.args.label Start; each = λ s o. leaf_few c.args.label s }
