use Rattle.std.proofs.lemmas.Result.{on_ok_weaker}
use Rattle.sequence_tables.specs.inner.Copies.{chain_machine}
use Rattle.sequence_tables.proofs.Places.{passes-puts}
use Rattle.sequence_tables.proofs.copies.CopiesAuto.label.Goals as goal

pub returns-clause-passes : goal.returns-clause-passes
returns-clause-passes g c =
    on_ok_weaker c.edge_label.result
    (passes-puts c.a_union_has_the_literals_of_both.ensures.passes
    ((chain_machine (g.A.Auto.machine c.args.self.now.body) c.args.self.now.count).edges c.args.state)
    c.args.place c.args.onto.now c.edge_label.new.onto)
    c.edge_label.ensures.edge
