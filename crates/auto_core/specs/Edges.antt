-- Lists of the edges that leave a state, each a label and a target, and lists that are made of such lists.
use Rattle.std.specs.Prelude.{◌≡◌, ◌↔◌, ℕ, ◌≤◌, Bool, true, List, Some, length, map, flat_map, filter, slice_get}
use Rattle.std.specs.Prelude.{Contains}
use Rattle.auto_core.specs.declared.labels.Literal.{Literal}
use Rattle.auto_core.specs.LiteralSets.{IsLabel, put_all}
use Rattle.auto_core.specs.Machine.{Machine, Letter, Passes}

-- the edge with the same label, its target renamed
abbrev pub renamed : {S U : Type 0} → (S → U) → List Literal × S → List Literal × U
renamed f x = (x.0, f x.1)

-- one edge of two: the literals of both labels, and a target made of both
abbrev pub joined_edge : {S T U : Type 0} → (S → T → U) → List Literal × S → List Literal × T → List Literal × U
joined_edge f x y = (put_all y.0 x.0, f x.1 y.1)

-- each edge of the first list joined with each of the second
abbrev pub products : {S T U : Type 0} →
    (S → T → U) → List (List Literal × S) → List (List Literal × T) → List (List Literal × U)
products f xs ys = flat_map (λ x. map (λ y. joined_edge f x y) ys) xs

-- the edges that lead to a state that accepts
abbrev pub last_edges : {S : Type 0} → Machine S → S → List (List Literal × S)
last_edges m s = filter (λ x. m.accepts x.1) (m.edges s)

-- ---- the edge at a place

-- the edge at the place leads to the state
abbrev pub LeadsTo : {S : Type 0} → List (List Literal × S) → ℕ → S → Type 0
LeadsTo edges k next = (label : List Literal) × (slice_get edges k ≡ Some (label, next))

-- an edge stands at the place, and its label is in P
abbrev pub HasLabelAt : {S : Type 0} → List (List Literal × S) → ℕ → (List Literal → Type 0) → Type 0
HasLabelAt {S} edges k P = (label : List Literal) × (next : S) × (slice_get edges k ≡ Some (label, next)) × P label

-- the literals of the edge at the place are put into the old set
abbrev pub PutsEdge : {S : Type 0} → List (List Literal × S) → ℕ → List Literal → List Literal → Type 0
PutsEdge edges k old new = HasLabelAt edges k (λ label. IsLabel label × (new ≡ put_all label old))

-- a letter passes the new set exactly if it passes the edge at the place and the old set
abbrev pub PassesEdge : {S : Type 0} → List (List Literal × S) → ℕ → List Literal → List Literal → Type 0
PassesEdge edges k old new = HasLabelAt edges k (λ label. (a : Letter) → Passes new a ↔ (Passes label a × Passes old a))

-- The second machine has a copy of the first, with its states renamed.
pub record HasCopy {S U : Type 0} (m : Machine S) (k : Machine U) (f : S → U) : Type 0 where
  pub accepts : (s : S) → k.accepts (f s) ≡ m.accepts s
  pub edges : (s : S) → k.edges (f s) ≡ map (renamed f) (m.edges s)

-- neither the start nor another state that is the machine's own has more than so many edges
pub record HasAtMost {S : Type 0} (own : S → Type 0) (m : Machine S) (n : ℕ) : Type 0 where
  pub start : length (m.edges m.start) ≤ n
  pub each : (s : S) → own s → length (m.edges s) ≤ n

-- ---- which edges a list has that is made of others

-- a list of renamed edges has those of the list, renamed
abbrev pub HasRenamed : {S U : Type 0} → (S → U) → Type 0
HasRenamed {S} {U} f =
    (edges : List (List Literal × S)) (label : List Literal) (u : U) →
    Contains (map (renamed f) edges) (label, u) ↔ ((s : S) × Contains edges (label, s) × (f s ≡ u))

-- the products have each edge of the first list joined with each of the second
abbrev pub HasJoined : {S T U : Type 0} → (S → T → U) → Type 0
HasJoined {S} {T} {U} f =
    (xs : List (List Literal × S)) (ys : List (List Literal × T)) (z : List Literal × U) →
    Contains (products f xs ys) z
    ↔ ((x : List Literal × S) × (y : List Literal × T) × Contains xs x × Contains ys y × (joined_edge f x y ≡ z))

-- the edges that lead to a state for which the test answers true are those of the list that do
abbrev pub HasTested : {S : Type 0} → (S → Bool) → Type 0
HasTested {S} test =
    (edges : List (List Literal × S)) (x : List Literal × S) →
    Contains (filter (λ y. test y.1) edges) x ↔ (Contains edges x × (test x.1 ≡ true))
