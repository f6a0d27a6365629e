-- The first cycle in which a module's output is 1 (IEEE 1364-2005, 6.1 and 9.2, for the runs).
--     port_rows from count rows      the values of `count` ports in each cycle: the row's values from place `from` on
--     end_values end count           `mbac_eot` in each of so many cycles: 1 in the last cycle alone, or never
--     IsFirstFail stream first       the first cycle, from 0, in which the stream is 1, or none where there is none
use Rattle.std.specs.Prelude.{◌≡◌, ℕ, suc, zero, ◌+◌, ◌<◌, ◌≤◌, Bool, false, List, [], ◌∷◌, ◌++◌, map, length}
use Rattle.std.specs.Prelude.{replicate, slice_get, slice_range, Option, Some, None, All}
use Rattle.psl_model.specs.declared.names.Signal.{Signal}
use Rattle.verilog_text.specs.Module.{Module}
use Rattle.verilog_text.specs.Run.{FitWidths}
use Rattle.verilog_text.specs.Interface.{port_widths}

abbrev pub port_row : (from count : ℕ) → (row : List ℕ) → List ℕ
port_row from count row = slice_range row from (from + count)

abbrev pub port_rows : (from count : ℕ) → List (List ℕ) → List (List ℕ)
port_rows from count rows = map (port_row from count) rows

abbrev pub end_values : (end : Bool) → (count : ℕ) → List Bool
end_values end zero = []
end_values end (suc count) = replicate count false ++ end ∷ []

abbrev pub IsFirstFail : (stream : List ℕ) → Option ℕ → Type 0
IsFirstFail stream None = (cycle : ℕ) → ¬ (slice_get stream cycle ≡ Some 1)
IsFirstFail stream (Some first) =
    (slice_get stream first ≡ Some 1) × ((cycle : ℕ) → cycle < first → ¬ (slice_get stream cycle ≡ Some 1))

-- the row has a value that fits for each port of the module, from place `from` on
pub record FitsRow (m : Module) (from : ℕ) (row : List ℕ) : Type 0 where
  pub there : from + length m.ports ≤ length row
  pub fit : FitWidths (port_widths m.ports) (port_row from (length m.ports) row)

abbrev pub FitsRows : Module → (from : ℕ) → (rows : List (List ℕ)) → Type 0
FitsRows m from rows = All (FitsRow m from) rows

-- the module's ports are the wanted signals from place `from` on
pub record ArePortsFrom (m : Module) (from : ℕ) (wanted : List Signal) : Type 0 where
  pub there : from + length m.ports ≤ length wanted
  pub same : m.ports ≡ slice_range wanted from (from + length m.ports)
