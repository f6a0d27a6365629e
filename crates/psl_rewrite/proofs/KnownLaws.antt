-- The laws of words and formulas that the proofs here rest on, as the functions that have them as contracts give them.
use Rattle.std.proofs.Common.{◌≡◌, ◌≢◌, ℕ, ◌<◌, List, Some, sym, subst, ap, ◌∙◌}
use Rattle.std.specs.Prelude.{◌↔◌}
use Rattle.psl_meaning.specs.Word.{Letter, top, Word, bar, with_tops, from, letter_at, Reaches}
use Rattle.psl_meaning.specs.Formula.{CoreFormula, Satisfies}
use Rattle.psl_meaning.specs.FormulaSugar.{or, everywhere}
use Rattle.psl_rewrite.proofs.Lists.{from_bar}

abbrev pub BarOfBar : Type 0
BarOfBar = (w : Word) → bar (bar w) ≡ w

pub record Laws : Type 0 where
  pub bar_of_bar : BarOfBar
  pub never_ends : (letters : List Letter) (k : ℕ) → Reaches (with_tops letters) k
  pub each_place : (widths : List ℕ) (f : CoreFormula) (w : Word) → Satisfies widths (everywhere f) w
      ↔ ((k : ℕ) → Reaches w k → ((j : ℕ) → j < k → letter_at w j ≢ Some top) → ¬ ¬ Satisfies widths f (from k w))
  pub letters_decide : (widths : List ℕ) (f : CoreFormula) (w v : Word) →
      ((k : ℕ) → letter_at w k ≡ letter_at v k) → Satisfies widths f w ↔ Satisfies widths f v

pub bar_from_bar : BarOfBar → (k : ℕ) (w : Word) → bar (from k (bar w)) ≡ from k w
bar_from_bar twice k w = ap bar (from_bar k w) ∙ twice (from k w)

pub or_opens : BarOfBar → (widths : List ℕ) (f g : CoreFormula) (w : Word) → Satisfies widths (or f g) w →
    ¬ ((¬ Satisfies widths f w) × (¬ Satisfies widths g w))
or_opens twice widths f g w s =
    subst (λ (v : Word). ¬ ((¬ Satisfies widths f v) × (¬ Satisfies widths g v))) (twice w) s

pub or_closes : BarOfBar → (widths : List ℕ) (f g : CoreFormula) (w : Word) →
    ¬ ((¬ Satisfies widths f w) × (¬ Satisfies widths g w)) → Satisfies widths (or f g) w
or_closes twice widths f g w s =
    subst (λ (v : Word). ¬ ((¬ Satisfies widths f v) × (¬ Satisfies widths g v))) (sym (twice w)) s
