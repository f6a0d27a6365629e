use Rattle.std.proofs.Common.{arith, sym}
use Rattle.sequence_tables.proofs.ChainPlaces.{count_ends}
use Rattle.sequence_tables.proofs.copies.CopiesAuto.edge_count.Goals as goal

pub returns-then-accepts : goal.returns-then-accepts
returns-then-accepts g c =
    count_ends (g.A.Auto.machine c.args.self.now.body) c.args.self.now.count c.args.state.0 c.args.state.1
    c.edge_count-count.result c.later.result c.edge_count.result c.start.result c.edge_count-count.ensures
    (sym c.if-accepts.ensures) c.later.ensures c.edge_count.ensures c.start.ensures.value

pub overflow_mul-result : goal.overflow_mul-result
overflow_mul-result g c =
    let fits = c.requires.fit.3 c.args.state.0 c.args.state.1 c.requires.owned.0 c.requires.owned.1 in
    omega (arith, returns-then-accepts g c, fits)

pub overflow_add-result : goal.overflow_add-result
overflow_add-result g c =
    let fits = c.requires.fit.3 c.args.state.0 c.args.state.1 c.requires.owned.0 c.requires.owned.1 in
    omega (arith, returns-then-accepts g c, fits)
