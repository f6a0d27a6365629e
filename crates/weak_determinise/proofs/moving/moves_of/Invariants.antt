use Rattle.auto_core.specs.Graph.{graph_machine}
use Rattle.weak_determinise.specs.inner.Stepping.{all_steps}
use Rattle.weak_determinise.specs.inner.Moving.{AreMoves}
use Rattle.weak_determinise.proofs.moving.moves_of.Given as goal

abbrev pub invariant-loop-value : goal.invariant-loop-value
invariant-loop-value l = AreMoves (graph_machine l.table) (all_steps l.steps) l.count l.limit l.value l.fn.seen.keys
    l.seen.keys l.moves
