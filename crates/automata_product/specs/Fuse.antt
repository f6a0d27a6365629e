use Rattle.std.specs.Prelude.{Bool, false, List, ◌++◌, map}
use Rattle.auto_core.specs.declared.labels.Literal.{Literal}
use Rattle.auto_core.specs.Edges.{renamed, products, last_edges}
use Rattle.auto_core.specs.Machine.{Machine}
use Rattle.automata_product.specs.declared.side.Side.{Side}
use Rattle.automata_product.specs.declared.side.Side.TheVariants.{Left, Right}

-- only a state of the right part may accept
abbrev pub fuse_accepts : {S T : Type 0} → Machine T → Side S T → Bool
fuse_accepts n (Left p) = false
fuse_accepts n (Right q) = n.accepts q

-- each last step of the left part from this state, together with each first step of the right part
abbrev pub joint_edges : {S T : Type 0} → Machine S → Machine T → S → List (List Literal × Side S T)
joint_edges m n p = products (λ last q. Right q) (last_edges m p) (n.edges n.start)

-- a last step of the left part is taken together with a first step of the right part
abbrev pub fuse_edges : {S T : Type 0} → Machine S → Machine T → Side S T → List (List Literal × Side S T)
fuse_edges m n (Left p) = map (renamed Left) (m.edges p) ++ joint_edges m n p
fuse_edges m n (Right q) = map (renamed Right) (n.edges q)

-- first the left part, then the right part, the two overlapping in one step
abbrev pub fuse_machine : {S T : Type 0} → Machine S → Machine T → Machine (Side S T)
fuse_machine m n = record {
  start = Left m.start;
  accepts = fuse_accepts n;
  edges = fuse_edges m n;
}
