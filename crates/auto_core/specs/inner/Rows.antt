-- How a table files the edges of each state beside one another.
use Rattle.std.specs.Prelude.{◌≡◌, ℕ, ◌<◌, ◌≤◌, ◌^◌, List, ◌==◌, length, filter, slice_range, Some, slice_get, All}
use Rattle.auto_core.specs.declared.tables.Edge.{Edge}
use Rattle.auto_core.specs.declared.tables.Row.{Row}

-- the row has the edges of state n, from `first` up to `end`
pub record HasEdgesOf (edges : List Edge) (n : ℕ) (row : Row) : Type 0 where
  pub in_order : row.first ≤ row.end
  pub within : row.end ≤ length edges
  pub there : slice_range edges row.first row.end ≡ filter (λ e. e.from == n) edges

-- each state has its edges in its row, and all edges lead from a state to a state
pub record IsFiled (rows : List Row) (edges : List Edge) : Type 0 where
  pub some : 0 < length rows
  pub countable : length rows < 2 ^ 32
  pub rows_there : (n : ℕ) (row : Row) → slice_get rows n ≡ Some row → HasEdgesOf edges n row
  pub between : All (λ e. e.from < length rows × e.to < length rows) edges
