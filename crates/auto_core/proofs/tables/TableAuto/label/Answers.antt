use Rattle.std.proofs.lemmas.Result.{on_ok_weaker}
use Rattle.auto_core.proofs.LabelLemmas.{passes_by_edge}
use Rattle.auto_core.proofs.RowLemmas.{edge_of_machine}
use Rattle.auto_core.proofs.tables.TableAuto.label.Goals as goal

pub returns-clause-edge : goal.returns-clause-edge
returns-clause-edge c = on_ok_weaker c.put_all.result
    (λ same. (
      c.edge.result.now.label,
      c.edge.result.now.to,
      edge_of_machine c.args.self.now.edges c.args.state
          c.args.place c.edge.result.now c.edge.ensures.value,
      (c.edge.ensures.ordered, same),
    ))
    c.put_all.ensures.ok

pub returns-clause-passes : goal.returns-clause-passes
returns-clause-passes c = on_ok_weaker c.put_all.result (λ h. passes_by_edge _ c.args.place _ _ h)
    (returns-clause-edge c)
