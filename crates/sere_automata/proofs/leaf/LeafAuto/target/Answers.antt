use Rattle.sere_automata.proofs.LeafPlaces.{leaf_leads}
use Rattle.sere_automata.proofs.leaf.LeafAuto.target.Goals as goal

pub returns-clause-edge : goal.returns-clause-edge
returns-clause-edge c = leaf_leads c.args.self.now.label c.args._state c.args._place c.requires.there
