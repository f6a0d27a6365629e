-- Violation by a finite trace, after IEEE 1850-2010, Annex B (truncated words). `widths` has the width of each signal.
use Rattle.std.specs.Prelude.{ℕ, List, map}
use Rattle.psl_model.specs.Formula.{Formula}
use Rattle.psl_meaning.specs.Word.{Valuation, valuation, finite, with_tops}
use Rattle.psl_meaning.specs.Formula.{Satisfies}
use Rattle.psl_meaning.specs.FormulaSugar.{core_formula_of}

-- followed by tops for ever, the trace does not satisfy the formula: it is violated already
abbrev pub WeaklyViolates : (widths : List ℕ) → Formula → List Valuation → Type 0
WeaklyViolates widths f trace = ¬ Satisfies widths (core_formula_of f) (with_tops (map valuation trace))

-- as a word that ends, the trace does not satisfy the formula
abbrev pub Violates : (widths : List ℕ) → Formula → List Valuation → Type 0
Violates widths f trace = ¬ Satisfies widths (core_formula_of f) (finite (map valuation trace))
