-- What the code's table of positions says of a signal.
use Rattle.std.specs.Prelude.{ℕ, slice_index_or}
use Rattle.port_formulas.specs.declared.renumbering.Positions.{Positions}

abbrev pub told : Positions → (signal : ℕ) → ℕ
told positions signal = slice_index_or positions.table.items signal positions.absent
