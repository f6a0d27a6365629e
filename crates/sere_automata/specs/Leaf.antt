use Rattle.std.specs.Prelude.{Bool, true, false, List, [], ◌∷◌}
use Rattle.auto_core.specs.declared.labels.Literal.{Literal}
use Rattle.auto_core.specs.Machine.{Machine}
use Rattle.sere_automata.specs.declared.states.LeafState.{LeafState}
use Rattle.sere_automata.specs.declared.states.LeafState.TheVariants.{Start, End}

abbrev pub leaf_accepts : LeafState → Bool
leaf_accepts Start = false
leaf_accepts End = true

abbrev pub leaf_edges : List Literal → LeafState → List (List Literal × LeafState)
leaf_edges label Start = (label, End) ∷ []
leaf_edges label End = []

-- one step, with this label
abbrev pub leaf_machine : List Literal → Machine LeafState
leaf_machine label = record { start = Start; accepts = leaf_accepts; edges = leaf_edges label }
