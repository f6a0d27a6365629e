-- Where the moves of rows lead in one cycle.
use Rattle.std.specs.Prelude.{ℕ, ◌≡◌, ◌^◌, ◌<◌, Bool, List, Some, All, map, length, slice_get, slice_index_or}
use Rattle.weak_determinise.specs.Nodes.{number_of}
use Rattle.first_failure.specs.declared.automaton.Next.{Next}
use Rattle.first_failure.specs.declared.automaton.Next.TheVariants.{Fail, Done, Go}
use Rattle.first_failure.specs.declared.automaton.FailRow.{FailRow}

-- the place that a move arrives at: its row's, or that of the failure, which is behind the rows
abbrev pub Targets : Next → (failure s : ℕ) → Type 0
Targets Fail failure s = failure ≡ s
Targets Done failure s = ⊥
Targets (Go t) failure s = t ≡ s

-- the number of the valuation that gives these symbols these values
abbrev pub move_number : (values : ℕ → Bool) → (symbols : List ℕ) → ℕ
move_number values symbols = number_of (map values symbols)

-- the move of these values of the row's symbols
abbrev pub move_of : FailRow → (ℕ → Bool) → Next
move_of row values = slice_index_or row.next (move_number values row.symbols) Fail

-- the row asks for symbols that have guards, has a move for each of their valuations, and leads to rows
pub record IsRowIn (symbols rows : ℕ) (row : FailRow) : Type 0 where
  pub guarded : All (λ s. s < symbols) row.symbols
  pub size : length row.next ≡ 2 ^ length row.symbols
  pub inside : (v t : ℕ) → v < length row.next → slice_index_or row.next v Fail ≡ Go t → t < rows

-- the move leads to s from one of the rows before a place, whose net is on
abbrev pub IsMovedTo : (end : ℕ) → List FailRow → (live : ℕ → Type 0) → (ℕ → Bool) → (failure s : ℕ) → Type 0
IsMovedTo end rows live values failure s =
    (r : ℕ) × (r < end) × (row : FailRow) × (slice_get rows r ≡ Some row) × live r
    × Targets (move_of row values) failure s
