-- When a module checks a formula: its output against violation (IEEE 1850-2010, Annex B), over every run from reset.
-- `widths` has the width of each signal of the unit; the module's ports are the signals at `places`.
use Rattle.std.specs.Prelude.{◌≢◌, ◌↔◌, ℕ, suc, ◌-◌, ◌<◌, List, [], ◌∷◌, ◌++◌, map, length, take, replicate}
use Rattle.std.specs.Prelude.{slice_index, All, Contains}
use Rattle.psl_model.specs.Formula.{Formula}
use Rattle.psl_meaning.specs.Word.{Valuation}
use Rattle.psl_meaning.specs.Violation.{WeaklyViolates, Violates}
use Rattle.verilog_text.specs.Module.{Module}
use Rattle.verilog_text.specs.Run.{Cycle, FitWidths, IsRunFromReset, fail_stream, RisesBy}

-- the values of the signals at these places
abbrev pub values_at : (places : List ℕ) → Valuation → List ℕ
values_at places values = map (λ place. slice_index values place) places

-- a finite trace, not empty, whose values fit their signals
pub record IsTrace (widths : List ℕ) (trace : List Valuation) : Type 0 where
  pub not_empty : trace ≢ []
  pub fits : All (FitWidths widths) trace

-- `mbac_eot` is 0 throughout, or 1 in the last cycle alone
abbrev pub never_ends : List Valuation → List ℕ
never_ends trace = replicate (length trace) 0

abbrev pub ends_last : List Valuation → List ℕ
ends_last trace = replicate (length trace - 1) 0 ++ 1 ∷ []

-- Without an end of execution the output first rises at the first cycle whose prefix weakly violates the formula.
abbrev pub RisesWithViolation : (widths places : List ℕ) → Module → Formula → Type 0
RisesWithViolation widths places m f =
    (trace : List Valuation) (reset : Cycle) (cycles : List Cycle) → IsTrace widths trace →
    IsRunFromReset m (map (values_at places) trace) (never_ends trace) reset cycles →
    (n : ℕ) → n < length trace → RisesBy (fail_stream cycles) n ↔ WeaklyViolates widths f (take (suc n) trace)

-- With the end of execution in the last cycle the output has been 1 by then exactly if the trace violates the formula.
abbrev pub EndsWithViolation : (widths places : List ℕ) → Module → Formula → Type 0
EndsWithViolation widths places m f =
    (trace : List Valuation) (reset : Cycle) (cycles : List Cycle) → IsTrace widths trace →
    IsRunFromReset m (map (values_at places) trace) (ends_last trace) reset cycles →
    Contains (fail_stream cycles) 1 ↔ Violates widths f trace

pub record Checks (widths places : List ℕ) (m : Module) (f : Formula) : Type 0 where
  pub rises : RisesWithViolation widths places m f
  pub ends : EndsWithViolation widths places m f
