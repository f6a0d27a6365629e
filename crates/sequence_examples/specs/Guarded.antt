-- Whether each symbol that labels or rows speak of is below a number.
use Rattle.std.specs.Prelude.{ℕ, Bool, nat_lt, List}
use Rattle.std.specs.List.{list_all}
use Rattle.auto_core.specs.declared.labels.Literal.{Literal}
use Rattle.auto_core.specs.declared.tables.Edge.{Edge}
use Rattle.first_failure.specs.declared.automaton.FailRow.{FailRow}

abbrev pub is_below : (count : ℕ) → Literal → Bool
is_below count literal = nat_lt literal.symbol count

abbrev pub is_guarded : (count : ℕ) → Edge → Bool
is_guarded count edge = list_all (is_below count) edge.label

abbrev pub is_asked : (count : ℕ) → FailRow → Bool
is_asked count row = list_all (λ s. nat_lt s count) row.symbols
