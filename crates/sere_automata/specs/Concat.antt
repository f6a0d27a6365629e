use Rattle.std.specs.Prelude.{Bool, ◌&&◌, if◌then◌else◌, List, [], ◌++◌, map}
use Rattle.auto_core.specs.declared.labels.Literal.{Literal}
use Rattle.auto_core.specs.Machine.{Machine}
use Rattle.automata_product.specs.declared.side.Side.{Side}
use Rattle.automata_product.specs.declared.side.Side.TheVariants.{Left, Right}
use Rattle.auto_core.specs.Edges.{renamed}

-- the right part's accepting states, and the left part's where the right part accepts the empty list
abbrev pub concat_accepts : {S T : Type 0} → Machine S → Machine T → Side S T → Bool
concat_accepts m n (Left p) = m.accepts p && n.accepts n.start
concat_accepts m n (Right q) = n.accepts q

-- where the left part accepts, the right part's first steps may follow
abbrev pub concat_edges : {S T : Type 0} → Machine S → Machine T → Side S T → List (List Literal × Side S T)
concat_edges m n (Left p) =
    map (renamed Left) (m.edges p) ++ (if m.accepts p then map (renamed Right) (n.edges n.start) else [])
concat_edges m n (Right q) = map (renamed Right) (n.edges q)

-- first the left part, then the right part
abbrev pub concat_machine : {S T : Type 0} → Machine S → Machine T → Machine (Side S T)
concat_machine m n = record {
  start = Left m.start;
  accepts = concat_accepts m n;
  edges = concat_edges m n;
}
