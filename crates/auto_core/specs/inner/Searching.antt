-- What is known while marks spread from the accepting states against the edges.
use Rattle.std.specs.Prelude.{◌≡◌, ◌⊎◌, ℕ, ◌+◌, ◌<◌, Bool, true, false, not, List, [], length, slice_index_or, count_by}
use Rattle.auto_core.specs.declared.tables.Edge.{Edge}
use Rattle.auto_core.specs.inner.Among.{Among}
use Rattle.auto_core.specs.Graph.{Graph, graph_machine, IsAlive}

abbrev pub IsMarked : List Bool → ℕ → Type 0
IsMarked marked n = slice_index_or marked n false ≡ true

-- the n-th row has the states from which an edge leads to state n, and no other
pub record HasSources (edges : List Edge) (rows : List (List ℕ)) : Type 0 where
  pub all : (edge : Edge) → Among edges edge → edge.to < length rows → Among (slice_index_or rows edge.to []) edge.from
  pub only : (n p : ℕ) → Among (slice_index_or rows n []) p → (edge : Edge) × Among edges edge × (edge.from ≡ p) ×
      (edge.to ≡ n)

-- all of these states were marked, those that weren't so before with work left to do, and nothing else changed
pub record Spreads (states : List ℕ) (marked : List Bool) (work : List ℕ) (marked' : List Bool) (work' : List ℕ) :
    Type 0 where
  pub size : length marked' ≡ length marked
  pub kept : (n : ℕ) → IsMarked marked n → IsMarked marked' n
  pub all : (n : ℕ) → Among states n → IsMarked marked' n
  pub only : (n : ℕ) → IsMarked marked' n → IsMarked marked n ⊎ Among states n
  pub left : (n : ℕ) → Among work n → Among work' n
  pub added : (n : ℕ) → Among work' n → Among work n ⊎ Among states n
  pub pending : (n : ℕ) → IsMarked marked' n → IsMarked marked n ⊎ Among work' n
  pub count : count_by not marked' + length work' ≡ count_by not marked + length work

-- each edge to state n comes from a marked state
abbrev pub IsClosed : Graph → List Bool → ℕ → Type 0
IsClosed g marked n = (edge : Edge) → Among g.edges edge → edge.to ≡ n → IsMarked marked edge.from

-- marks stand at alive states only, at all accepting ones, and before each marked state for which no work is left
pub record IsSearch (g : Graph) (marked : List Bool) (work : List ℕ) : Type 0 where
  pub size : length marked ≡ length g.accepting
  pub inside : (n : ℕ) → Among work n → n < length marked
  pub known : (n : ℕ) → Among work n → IsMarked marked n
  pub sound : (n : ℕ) → IsMarked marked n → IsAlive (graph_machine g) n
  pub accepting : (n : ℕ) → IsMarked g.accepting n → IsMarked marked n
  pub pending : (n : ℕ) → IsMarked marked n → Among work n ⊎ IsClosed g marked n
