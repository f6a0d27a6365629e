-- When a formula over some of the signals says the same as one over all: a checker's ports are the signals that its
-- formula uses, and the checker's own formula names them by the order of the ports.
use Rattle.std.specs.Prelude.{◌↔◌, ◌≢◌, ℕ, List, [], map, All}
use Rattle.psl_model.specs.Formula.{Formula}
use Rattle.psl_model.specs.Value.{FitWidths}
use Rattle.psl_meaning.specs.Word.{Valuation}
use Rattle.psl_meaning.specs.Violation.{WeaklyViolates, Violates}
use Rattle.checker_meaning.specs.Checks.{values_at}

-- Over signals of the widths, f says what `inner` says over those at the places. Of a trace without cycles, which no
-- checker sees, nothing is asked as a word that ends.
pub record ReadsAs (widths places inner_widths : List ℕ) (f inner : Formula) : Type 0 where
  pub fits : (values : Valuation) → FitWidths widths values → FitWidths inner_widths (values_at places values)
  pub weakly : (trace : List Valuation) → All (FitWidths widths) trace →
      WeaklyViolates widths f trace ↔ WeaklyViolates inner_widths inner (map (values_at places) trace)
  pub whole : (trace : List Valuation) → trace ≢ [] → All (FitWidths widths) trace →
      Violates widths f trace ↔ Violates inner_widths inner (map (values_at places) trace)
