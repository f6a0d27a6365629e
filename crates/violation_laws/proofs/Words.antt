-- Lists of valuations as words, and `or` without its bars.
use Rattle.std.specs.Prelude.{ℕ, ◌≡◌, List, map}
use Rattle.std.proofs.Common.{sym, subst}
use Rattle.psl_meaning.specs.Word.{Valuation, valuation, Ending, Word, bar}
use Rattle.psl_meaning.specs.Formula.{CoreFormula, Satisfies}
use Rattle.psl_meaning.specs.FormulaSugar.{or}

-- a list, and how it goes on
abbrev pub word : List Valuation → Ending → Word
word ls e = record { letters = map valuation ls; ending = e }

-- the formula isn't refuted there
abbrev pub Kept : (widths : List ℕ) → Ending → CoreFormula → List Valuation → Type 0
Kept widths e f ls = ¬ ¬ Satisfies widths f (word ls e)

abbrev pub BarOfBar : Type 0
BarOfBar = (w : Word) → bar (bar w) ≡ w

module _ (bars : BarOfBar) (widths : List ℕ) where
  -- what is seen through two bars
  pub into_bars : (f : CoreFormula) (w : Word) → Satisfies widths f w → Satisfies widths f (bar (bar w))
  into_bars f w s = subst (λ (v : Word). Satisfies widths f v) (sym (bars w)) s

  pub out_of_bars : (f : CoreFormula) (w : Word) → Satisfies widths f (bar (bar w)) → Satisfies widths f w
  out_of_bars f w s = subst (λ (v : Word). Satisfies widths f v) (bars w) s

  pub or_opens : (f g : CoreFormula) (w : Word) → Satisfies widths (or f g) w →
      ¬ ((¬ Satisfies widths f w) × (¬ Satisfies widths g w))
  or_opens f g w s p = s ((λ t. p.0 (out_of_bars f w t)), (λ t. p.1 (out_of_bars g w t)))

  pub or_closes : (f g : CoreFormula) (w : Word) → ¬ ((¬ Satisfies widths f w) × (¬ Satisfies widths g w)) →
      Satisfies widths (or f g) w
  or_closes f g w s p = s ((λ t. p.0 (into_bars f w t)), (λ t. p.1 (into_bars g w t)))
