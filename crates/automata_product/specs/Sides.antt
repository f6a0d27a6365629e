-- What holds of a state of either part, and the edges of a state of each.
use Rattle.std.specs.Prelude.{List, ◌++◌, map}
use Rattle.auto_core.specs.declared.labels.Literal.{Literal}
use Rattle.auto_core.specs.Edges.{renamed}
use Rattle.auto_core.specs.Machine.{Machine}
use Rattle.automata_product.specs.declared.side.Side.{Side}
use Rattle.automata_product.specs.declared.side.Side.TheVariants.{Left, Right}

-- a state of the left part is in P, one of the right part in Q
abbrev pub OfSides : {S T : Type 0} → (S → Type 0) → (T → Type 0) → Side S T → Type 0
OfSides P Q (Left p) = P p
OfSides P Q (Right q) = Q q

-- the edges of a state of the one machine, and after them those of a state of the other
abbrev pub either_edges : {S T : Type 0} → Machine S → Machine T → S → T → List (List Literal × Side S T)
either_edges m n p q = map (renamed Left) (m.edges p) ++ map (renamed Right) (n.edges q)
