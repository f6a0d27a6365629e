use Rattle.std.proofs.Common.{subst}
use Rattle.std.proofs.lemmas.Result.{on_ok_weaker}
use Rattle.auto_core.specs.LiteralSets.{IsLabel}
use Rattle.sere_automata.proofs.LeafPlaces.{leaf_puts, leaf_passes}
use Rattle.sere_automata.proofs.leaf.LeafAuto.label.Goals as goal

pub returns-clause-edge : goal.returns-clause-edge
returns-clause-edge c =
    on_ok_weaker c.put_all.result
    (leaf_puts c.args.self.now.label c.args._state c.args._place c.args.onto.now c.put_all.new.self c.requires.there
    (subst IsLabel c.literals-ordered.ensures.value c.literals-ordered.ensures.ordered))
    c.put_all.ensures.ok

pub returns-clause-passes : goal.returns-clause-passes
returns-clause-passes c =
    on_ok_weaker c.put_all.result
    (leaf_passes c.args.self.now.label c.args._state c.args._place c.args.onto.now c.put_all.new.self c.requires.there)
    c.put_all.ensures.passes
