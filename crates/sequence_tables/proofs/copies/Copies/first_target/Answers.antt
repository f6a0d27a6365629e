use Rattle.std.proofs.Common.{arith}
use Rattle.sequence_tables.proofs.ChainPlaces.{following_there, following_number, following_leads}
use Rattle.sequence_tables.proofs.copies.Copies.first_target.Goals as goal

pub nonzero_div-result : goal.nonzero_div-result
nonzero_div-result g c =
    (following_there (g.A.Auto.machine c.args.self.now.body) c.args.self.now.count c.args.copy
    c.args.past c.edge_count-count.result c.start-start.result c.edge_count-count.ensures c.start-start.ensures.value
    c.requires.there).0

pub nonzero_rem-past : goal.nonzero_rem-past
nonzero_rem-past g c =
    (following_there (g.A.Auto.machine c.args.self.now.body) c.args.self.now.count c.args.copy
    c.args.past c.edge_count-count.result c.start-start.result c.edge_count-count.ensures c.start-start.ensures.value
    c.requires.there).0

pub overflow_cast-result : goal.overflow_cast-result
overflow_cast-result g c =
    let there = following_number (g.A.Auto.machine c.args.self.now.body) c.args.self.now.count c.args.copy
    c.args.past c.edge_count-count.result c.start-start.result c.edge_count-count.ensures c.start-start.ensures.value
    c.requires.there c.requires.owned in
    omega (arith, there, c.requires.fit.2)

pub overflow_add-result-2 : goal.overflow_add-result-2
overflow_add-result-2 g c =
    let there = following_number (g.A.Auto.machine c.args.self.now.body) c.args.self.now.count c.args.copy
    c.args.past c.edge_count-count.result c.start-start.result c.edge_count-count.ensures c.start-start.ensures.value
    c.requires.there c.requires.owned in
    omega (arith, there, c.requires.fit.2)

pub target-requires-clause-there : goal.target-requires-clause-there
target-requires-clause-there g c =
    (following_there (g.A.Auto.machine c.args.self.now.body) c.args.self.now.count c.args.copy
    c.args.past c.edge_count-count.result c.start-start.result c.edge_count-count.ensures c.start-start.ensures.value
    c.requires.there).2

pub returns-clause-edge : goal.returns-clause-edge
returns-clause-edge g c =
    following_leads (g.A.Auto.machine c.args.self.now.body) c.args.self.now.count c.args.copy
    c.args.past c.edge_count-count.result c.start-start.result c.edge_count-count.ensures c.start-start.ensures.value
    c.requires.there c.target.result c.target.ensures.edge

pub returns-clause-number : goal.returns-clause-number
returns-clause-number g c =
    following_number (g.A.Auto.machine c.args.self.now.body) c.args.self.now.count c.args.copy
    c.args.past c.edge_count-count.result c.start-start.result c.edge_count-count.ensures c.start-start.ensures.value
    c.requires.there c.requires.owned
