use Rattle.std.proofs.Common.{◌<◌, length, refl, arith, subst}
use Rattle.auto_core.specs.Edges.{HasAtMost}
use Rattle.auto_core.specs.Graph.{Graph, graph_machine}
use Rattle.automata_examples.proofs.tables.overlapped.Goals as goal

pub materialise-requires : goal.materialise-requires
materialise-requires c =
    let small =
    subst (λ (g : Graph). HasAtMost (λ s. s < length g.accepting) (graph_machine g) 100000) c.table.ensures.same
    (c.if-not-are_small.ensures.left refl) in
    c.new.ensures.fits 100000 100000 tt tt small (c.if-not-are_small.ensures.right refl) (omega arith) (omega arith)
