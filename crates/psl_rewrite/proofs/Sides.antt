-- What refutes a Boolean, and what refutes two formulas joined by `||`, `->` and `&&`.
use Rattle.std.proofs.Common.{◌≡◌, ◌≢◌, ℕ, zero, suc, List, ◌∷◌, refl, arith}
use Rattle.std.specs.Prelude.{◌↔◌}
use Rattle.psl_model.specs.Expr.{Expr}
use Rattle.psl_model.specs.Value.{own_value}
use Rattle.psl_meaning.specs.Word.{Letter, valuation, Ending, Word}
use Rattle.psl_meaning.specs.Formula.{CoreFormula, bool, not, and, Satisfies}
use Rattle.psl_meaning.specs.FormulaSugar.{or, implies}
use Rattle.psl_rewrite.proofs.KnownLaws.{BarOfBar, or_opens, or_closes}

is_zero : (x : ℕ) → ¬ (x ≢ 0) → x ≡ 0
is_zero zero h = refl
is_zero (suc x) h = absurd (h (λ e. omega arith))

not_zero : (x : ℕ) → ¬ ¬ (x ≢ 0) → x ≢ 0
not_zero zero h = λ e. h (λ n. n refl)
not_zero (suc x) h = λ e. omega arith

abbrev pub Refutes : (widths : List ℕ) → CoreFormula → Word → Type 0
Refutes widths f w = ¬ Satisfies widths f w

-- a word that begins with this valuation
abbrev pub beginning : List ℕ → List Letter → Ending → Word
beginning v rest ending = record { letters = valuation v ∷ rest; ending = ending }

pub refutes_bool : (widths : List ℕ) (e : Expr) (v : List ℕ) (rest : List Letter) (ending : Ending) →
    Refutes widths (bool e) (beginning v rest ending) ↔ (own_value widths v e ≡ 0)
refutes_bool widths e v rest ending = ((λ h. is_zero (own_value widths v e) h), (λ none s. s none))

pub refutes_not : (widths : List ℕ) (e : Expr) (v : List ℕ) (rest : List Letter) (ending : Ending) →
    Refutes widths (not (bool e)) (beginning v rest ending) ↔ (own_value widths v e ≢ 0)
refutes_not widths e v rest ending = ((λ h. not_zero (own_value widths v e) h), (λ h s. s h))

pub refutes_and : (widths : List ℕ) (f g : CoreFormula) (w : Word) →
    (¬ Refutes widths (and f g) w) ↔ ((¬ Refutes widths f w) × (¬ Refutes widths g w))
refutes_and widths f g w = (
  (λ h. ((λ r. h (λ s. r s.0)), (λ r. h (λ s. r s.1)))),
  (λ h r. h.0 (λ s. h.1 (λ t. r (s, t)))),
)

pub refutes_or : BarOfBar → (widths : List ℕ) (f g : CoreFormula) (w : Word) →
    Refutes widths (or f g) w ↔ (Refutes widths f w × Refutes widths g w)
refutes_or twice widths f g w = (
  (λ r. (
    (λ s. r (or_closes twice widths f g w (λ none. none.0 s))),
    (λ s. r (or_closes twice widths f g w (λ none. none.1 s))),
  )),
  (λ both s. or_opens twice widths f g w s both),
)

pub refutes_or_bool : BarOfBar → (widths : List ℕ) (e : Expr) (f : CoreFormula) (v : List ℕ) (rest : List Letter)
    (ending : Ending) → Refutes widths (or (bool e) f) (beginning v rest ending)
    ↔ ((own_value widths v e ≡ 0) × Refutes widths f (beginning v rest ending))
refutes_or_bool twice widths e f v rest ending =
    let whole = refutes_or twice widths (bool e) f (beginning v rest ending) in
    let test = refutes_bool widths e v rest ending in
    ((λ r. let b = whole.0 r in (test.0 b.0, b.1)), (λ b. whole.1 (test.1 b.0, b.1)))

pub refutes_implies : BarOfBar → (widths : List ℕ) (e : Expr) (f : CoreFormula) (v : List ℕ) (rest : List Letter)
    (ending : Ending) → Refutes widths (implies (bool e) f) (beginning v rest ending)
    ↔ ((own_value widths v e ≢ 0) × Refutes widths f (beginning v rest ending))
refutes_implies twice widths e f v rest ending =
    let whole = refutes_or twice widths (not (bool e)) f (beginning v rest ending) in
    let test = refutes_not widths e v rest ending in
    ((λ r. let b = whole.0 r in (test.0 b.0, b.1)), (λ b. whole.1 (test.1 b.0, b.1)))
