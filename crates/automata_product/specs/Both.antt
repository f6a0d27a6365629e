use Rattle.std.specs.Prelude.{◌&&◌}
use Rattle.auto_core.specs.Edges.{products}
use Rattle.auto_core.specs.Machine.{Machine}

-- the pairs of states: both parts take a step together, on the labels of both
abbrev pub both_machine : {S T : Type 0} → Machine S → Machine T → Machine (S × T)
both_machine m n = record {
  start = (m.start, n.start);
  accepts = λ s. m.accepts s.0 && n.accepts s.1;
  edges = λ s. products (λ p q. (p, q)) (m.edges s.0) (n.edges s.1);
}

-- a pair of states, the first in P and the second in Q
abbrev pub OfPair : {S T : Type 0} → (S → Type 0) → (T → Type 0) → S × T → Type 0
OfPair P Q s = P s.0 × Q s.1
