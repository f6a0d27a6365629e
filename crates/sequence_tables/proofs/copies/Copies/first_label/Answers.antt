use Rattle.std.proofs.lemmas.Result.{on_ok_weaker}
use Rattle.sequence_tables.proofs.ChainPlaces.{following_there, following_puts}
use Rattle.sequence_tables.proofs.copies.Copies.first_label.Goals as goal

pub nonzero_rem-past : goal.nonzero_rem-past
nonzero_rem-past g c =
    (following_there (g.A.Auto.machine c.args.self.now.body) c.args.self.now.count c.args.copy
    c.args.past c.edge_count-count.result c.start-start.result c.edge_count-count.ensures c.start-start.ensures.value
    c.requires.there).0

pub label-requires-clause-there : goal.label-requires-clause-there
label-requires-clause-there g c =
    (following_there (g.A.Auto.machine c.args.self.now.body) c.args.self.now.count c.args.copy
    c.args.past c.edge_count-count.result c.start-start.result c.edge_count-count.ensures c.start-start.ensures.value
    c.requires.there).2

pub returns-clause-edge : goal.returns-clause-edge
returns-clause-edge g c =
    on_ok_weaker c.label.result
    (following_puts (g.A.Auto.machine c.args.self.now.body) c.args.self.now.count c.args.copy
    c.args.past c.edge_count-count.result c.start-start.result c.edge_count-count.ensures c.start-start.ensures.value
    c.requires.there c.args.onto.now c.label.new.onto)
    c.label.ensures.edge
