-- The order in which a search from the start numbers the states and files the edges.
use Rattle.std.specs.Prelude.{◌≡◌, ◌≢◌, ℕ, suc, Bool, not, List, [], ◌∷◌, ◌++◌, ◌==◌, ◌&&◌, map, filter, AllPairs, All}
use Rattle.std.specs.List.{position_or_len}
use Rattle.auto_core.specs.declared.labels.Literal.{Literal}
use Rattle.auto_core.specs.declared.tables.Edge.{Edge}
use Rattle.auto_core.specs.LiteralSets.{same_label}
use Rattle.auto_core.specs.Machine.{Machine}
use Rattle.auto_core.specs.Graph.{Graph, Reached}

-- whether two edges have the same ends and the same literals
abbrev pub same_edge : Edge → Edge → Bool
same_edge a b = (a.from == b.from) && (same_label a.label b.label && (a.to == b.to))

-- the elements, each at its first place only, where eq says which are the same
abbrev pub once_each : {X : Type 0} → (X → X → Bool) → List X → List X
once_each eq [] = []
once_each eq (x ∷ xs) = x ∷ filter (λ y. not (eq x y)) (once_each eq xs)

-- an edge that leaves the state of some number
pub record Step (S : Type 0) : Type 0 where
  pub from : ℕ
  pub label : List Literal
  pub to : S

-- the edges of the state s, which has the number n
abbrev pub steps_of : {S : Type 0} → Machine S → ℕ → S → List (Step S)
steps_of m n s = map (λ e. record { from = n; label = e.0; to = e.1 }) (m.edges s)

-- the edges of these states in their order, where the first of them has the number n
abbrev pub steps_from : {S : Type 0} → Machine S → ℕ → List S → List (Step S)
steps_from m n [] = []
steps_from m n (s ∷ ss) = steps_of m n s ++ steps_from m (suc n) ss

-- the same edge between numbers, where each state has its place among the names for its number
abbrev pub numbered : {S : Type 0} → (S → S → Bool) → List S → Step S → Edge
numbered eq names step = record { from = step.from; label = step.label; to = position_or_len (eq step.to) names }

-- The table is the automaton's graph as far as it is reached, when state n is called by the n-th of the names.
pub record IsGraphOf {S : Type 0} (eq : S → S → Bool) (own : S → Type 0) (m : Machine S) (names : List S)
    (g : Graph) : Type 0 where
  -- the names are the start and then the targets of the named states' edges in order, each at its first place only
  pub named : names ≡ once_each eq (m.start ∷ map (λ e. e.to) (steps_from m 0 names))
  pub different : AllPairs (λ s t. s ≢ t) names
  pub owned : All own names
  pub reached : All (Reached m) names
  pub accepting : g.accepting ≡ map m.accepts names
  -- the edges of the named states in order, equal ones once
  pub edges : g.edges ≡ once_each same_edge (map (numbered eq names) (steps_from m 0 names))
