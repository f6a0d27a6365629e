use Rattle.auto_core.proofs.RowLemmas.{edge_of_machine}
use Rattle.auto_core.proofs.tables.TableAuto.target.Goals as goal

pub returns-clause-edge : goal.returns-clause-edge
returns-clause-edge c = (
  c.edge.result.now.label,
  edge_of_machine c.args.self.now.edges c.args.state c.args.place c.edge.result.now
      c.edge.ensures.value,
)
