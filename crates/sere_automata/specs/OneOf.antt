use Rattle.std.specs.Prelude.{Bool, ◌||◌, List, ◌++◌, map}
use Rattle.auto_core.specs.declared.labels.Literal.{Literal}
use Rattle.auto_core.specs.Machine.{Machine}
use Rattle.auto_core.specs.Edges.{renamed}
use Rattle.sere_automata.specs.declared.states.Choice.{Choice}
use Rattle.sere_automata.specs.declared.states.Choice.TheVariants.{New, Left, Right}

abbrev pub one_of_accepts : {S T : Type 0} → Machine S → Machine T → Choice S T → Bool
one_of_accepts m n New = m.accepts m.start || n.accepts n.start
one_of_accepts m n (Left p) = m.accepts p
one_of_accepts m n (Right q) = n.accepts q

-- the new start has the first steps of both parts
abbrev pub one_of_edges : {S T : Type 0} → Machine S → Machine T → Choice S T → List (List Literal × Choice S T)
one_of_edges m n New = map (renamed Left) (m.edges m.start) ++ map (renamed Right) (n.edges n.start)
one_of_edges m n (Left p) = map (renamed Left) (m.edges p)
one_of_edges m n (Right q) = map (renamed Right) (n.edges q)

-- one of the two parts
abbrev pub one_of_machine : {S T : Type 0} → Machine S → Machine T → Machine (Choice S T)
one_of_machine m n = record {
  start = New;
  accepts = one_of_accepts m n;
  edges = one_of_edges m n;
}
