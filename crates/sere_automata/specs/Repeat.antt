use Rattle.std.specs.Prelude.{Bool, true, if◌then◌else◌, List, [], ◌++◌, map}
use Rattle.auto_core.specs.declared.labels.Literal.{Literal}
use Rattle.auto_core.specs.Machine.{Machine}
use Rattle.auto_core.specs.Edges.{renamed}
use Rattle.sere_automata.specs.declared.states.Round.{Round}
use Rattle.sere_automata.specs.declared.states.Round.TheVariants.{New, Inner}

abbrev pub repeat_accepts : {S : Type 0} → Machine S → Round S → Bool
repeat_accepts m New = true
repeat_accepts m (Inner p) = m.accepts p

-- where the part accepts, its first steps may follow again
abbrev pub repeat_edges : {S : Type 0} → Machine S → Round S → List (List Literal × Round S)
repeat_edges m New = map (renamed Inner) (m.edges m.start)
repeat_edges m (Inner p) =
    map (renamed Inner) (m.edges p) ++ (if m.accepts p then map (renamed Inner) (m.edges m.start) else [])

-- the part any number of times, none included
abbrev pub repeat_machine : {S : Type 0} → Machine S → Machine (Round S)
repeat_machine m = record { start = New; accepts = repeat_accepts m; edges = repeat_edges m }
