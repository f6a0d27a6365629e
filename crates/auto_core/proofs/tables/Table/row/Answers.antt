use Rattle.auto_core.proofs.RowLemmas.{row_facts}
use Rattle.auto_core.proofs.tables.Table.row.Goals as goal

pub returns-clause-edges : goal.returns-clause-edges
returns-clause-edges c =
    (row_facts c.self.inside.rows.items c.self.inside.edges.keys c.args.self.now c.self.view_is c.self.invariant
    c.args.state c.index.result.now c.requires c.index.ensures).0

pub returns-clause-accepts : goal.returns-clause-accepts
returns-clause-accepts c =
    (row_facts c.self.inside.rows.items c.self.inside.edges.keys c.args.self.now c.self.view_is c.self.invariant
    c.args.state c.index.result.now c.requires c.index.ensures).1
