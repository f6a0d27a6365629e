use Rattle.std.proofs.lemmas.Result.{on_ok_weaker}
use Rattle.sequence_tables.proofs.ChainPlaces.{past_own, own_puts, past_puts}
use Rattle.sequence_tables.proofs.copies.Copies.edge_label.Goals as goal

pub returns-then-place-count-clause-edge : goal.returns-then-place-count-clause-edge
returns-then-place-count-clause-edge g c =
    on_ok_weaker c.label.result
    (own_puts (g.A.Auto.machine c.args.self.now.body) c.args.self.now.count c.args.copy c.args.at c.args.place
    c.args.onto.now c.label.new.onto)
    c.label.ensures.edge

pub returns-else-place-count-clause-edge : goal.returns-else-place-count-clause-edge
returns-else-place-count-clause-edge g c =
    let after =
    past_own (g.A.Auto.machine c.args.self.now.body) c.args.self.now.count c.args.copy c.args.at
    c.edge_count-count.result c.args.place c.edge_count-count.ensures c.if-place-count.false c.requires.there in
    on_ok_weaker c.first_label.result
    (past_puts (g.A.Auto.machine c.args.self.now.body) c.args.self.now.count c.args.copy c.args.at
    c.edge_count-count.result c.args.place c.args.onto.now c.first_label.new.onto c.edge_count-count.ensures
    c.if-place-count.false after.0)
    c.first_label.ensures.edge
