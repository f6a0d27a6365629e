-- Automata over labels as plain data, and the lists of letters that they accept.
use Rattle.std.specs.Prelude.{◌≡◌, ℕ, Bool, IsTrue, List, [], ◌∷◌, Option, None, Some, Contains, slice_index_or, false}
use Rattle.std.specs.List.{AllByRecursion}
use Rattle.auto_core.specs.declared.labels.Literal.{Literal}

-- what one cycle shows: the truth value of each symbol, or top, which passes each label
abbrev pub Letter : Type 0
Letter = Option (ℕ → Bool)

-- the truth value that a list gives a symbol, by its number
abbrev pub value_in : List Bool → ℕ → Bool
value_in values symbol = slice_index_or values symbol false

-- truth values pass a label where the symbol of each literal has the literal's sign
abbrev pub Passes : List Literal → Letter → Type 0
Passes label None = Unit {0}
Passes label (Some values) = AllByRecursion (λ l. values l.symbol ≡ l.positive) label

-- the start state, which states accept, and the edges that leave a state, each with its label and the state that it
-- leads to
pub record Machine (S : Type 0) : Type 0 where
  pub start : S
  pub accepts : S → Bool
  pub edges : S → List (List Literal × S)

-- a path from this state to an accepting state reads the letters
abbrev pub AcceptsFrom : {S : Type 0} → Machine S → S → List Letter → Type 0
AcceptsFrom m s [] = IsTrue (m.accepts s)
AcceptsFrom {S} m s (a ∷ w) = (label : List Literal) × (next : S) × Contains (m.edges s) (label, next) ×
    Passes label a × AcceptsFrom m next w

-- a path from the start to an accepting state reads the letters
abbrev pub Accepts : {S : Type 0} → Machine S → List Letter → Type 0
Accepts m w = AcceptsFrom m m.start w
