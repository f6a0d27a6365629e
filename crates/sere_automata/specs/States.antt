-- What holds of a state of an automaton that is made of parts.
use Rattle.sere_automata.specs.declared.states.Choice.{Choice}
use Rattle.sere_automata.specs.declared.states.Choice.TheVariants.{New, Left, Right}
use Rattle.sere_automata.specs.declared.states.Round.{Round}
use Rattle.sere_automata.specs.declared.states.Round.TheVariants as round

-- the new start, or a state of the left part in P, or one of the right part in Q
abbrev pub OfChoice : {S T : Type 0} → (S → Type 0) → (T → Type 0) → Choice S T → Type 0
OfChoice P Q New = Unit {0}
OfChoice P Q (Left p) = P p
OfChoice P Q (Right q) = Q q

-- the new start, or a state of the part in P
abbrev pub OfRound : {S : Type 0} → (S → Type 0) → Round S → Type 0
OfRound P round.New = Unit {0}
OfRound P (round.Inner p) = P p
