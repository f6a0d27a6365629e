use Rattle.std.proofs.Common.{length}
use Rattle.auto_core.specs.Graph.{graph_machine}
use Rattle.weak_determinise.specs.inner.Expanding.{IsPartWay}
use Rattle.weak_determinise.proofs.determinising.expand.Given as goal

abbrev pub invariant-loop-from : goal.invariant-loop-from
invariant-loop-from l = IsPartWay (graph_machine l.table) (length l.table.accepting) l.limit l.max_symbols l.from
    l.seen.keys l.nodes
