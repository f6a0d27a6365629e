-- The steps of a core sequence: those of its place graph that leave places which the start place reaches. A label is a
-- set of literals over the sequence's own Booleans, and equal steps are one.
--     literals_of e     the label of a Boolean
--     AreSteps r steps  the list has each step once
--     HasSteps r k      there are k steps
use Rattle.std.specs.Prelude.{◌≡◌, ◌↔◌, ℕ, Bool, if◌then◌else◌, List, [], ◌∷◌, ◌++◌, length, All, AllPairs, Any}
use Rattle.std.specs.Prelude.{Contains}
use Rattle.psl_model.specs.Expr.{Expr}
use Rattle.psl_meaning.specs.Sequence.{CoreSere}
use Rattle.sequence_cores.specs.PlaceGraph.{Place, start_of, Step}
use Rattle.sequence_tables.specs.PlaceTable.{ReachedBy}
use Rattle.symbol_alphabet.specs.Symbols.{stripped, is_positive, needs_none}

-- an expression without leading `!`, and whether it is to hold or not to hold
pub record BooleanLiteral : Type 0 where
  pub expr : Expr
  pub positive : Bool

-- The label of a Boolean is one literal: what is left of it without its leading `!`, which turn the sign. `1'd1` needs
-- none.
abbrev pub literals_of : Expr → List BooleanLiteral
literals_of e = if needs_none e then [] else record { expr = stripped e; positive = is_positive e } ∷ []

-- a step, its label as a list of literals of which only the members count
pub record LabelledStep : Type 0 where
  pub from : Place
  pub label : List BooleanLiteral
  pub to : Place

-- equal steps: between the same places, and with the same literals
abbrev pub IsSameStep : LabelledStep → LabelledStep → Type 0
IsSameStep s t =
    (s.from ≡ t.from) × (s.to ≡ t.to) × ((l : BooleanLiteral) → Contains s.label l ↔ Contains t.label l)

-- the steps of the place graph, where the literals of labels that are read together are taken together
abbrev pub Reading : CoreSere → Place → List BooleanLiteral → Place → Type 0
Reading = Step literals_of (λ x y. x ++ y)

-- a step that leaves a place which the start place reaches
abbrev pub IsReachedStep : CoreSere → LabelledStep → Type 0
IsReachedStep r s = ReachedBy (start_of r) (Reading r) s.from × Reading r s.from s.label s.to

-- The list has each step once.
pub record AreSteps (r : CoreSere) (steps : List LabelledStep) : Type 0 where
  pub each : All (IsReachedStep r) steps
  pub every : (s : LabelledStep) → IsReachedStep r s → Any (IsSameStep s) steps
  pub once : AllPairs (λ s t. ¬ IsSameStep s t) steps

-- there are k steps
abbrev pub HasSteps : CoreSere → ℕ → Type 0
HasSteps r k = (steps : List LabelledStep) × AreSteps r steps × (length steps ≡ k)
