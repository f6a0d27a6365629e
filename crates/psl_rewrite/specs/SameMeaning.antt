-- When two formulas mean the same on what a checker sees: traces that end, and traces with tops from some cycle on.
--     HasNoBottom w        each letter of w is a valuation or top, so w ends or goes on with tops
--     MeanTheSame f g      each word like that which isn't empty satisfies both or neither
use Rattle.std.specs.Prelude.{◌≢◌, ◌↔◌, ℕ, List, Some}
use Rattle.psl_model.specs.Formula.{Formula}
use Rattle.psl_meaning.specs.Word.{Word, bottom, letter_at, Reaches}
use Rattle.psl_meaning.specs.Formula.{Satisfies}
use Rattle.psl_meaning.specs.FormulaSugar.{core_formula_of}

abbrev pub HasNoBottom : Word → Type 0
HasNoBottom w = (k : ℕ) → letter_at w k ≢ Some bottom

abbrev pub MeanTheSame : Formula → Formula → Type 0
MeanTheSame f g = (widths : List ℕ) (w : Word) → Reaches w 0 → HasNoBottom w →
    Satisfies widths (core_formula_of f) w ↔ Satisfies widths (core_formula_of g) w
