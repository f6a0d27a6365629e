-- What is asked of the expressions, counts and sequences of a formula, and of a base formula.
--     IsAllowed widths limit e            e is valid, and at most so many parentheses are open in its text
--     SereHas P r, FormulaHas P f, BaseHas P b     P of each expression, those in sequences too
--     SereCounts r, FormulaCounts f, BaseCounts b  each count and each range is one that a unit may have
--     formula_sequences f, base_sequences b        the sequences, in reading order
use Rattle.std.specs.Prelude.{ℕ, ◌≡◌, ◌≤◌, List, [], ◌∷◌, ◌++◌, Option, Some, None}
use Rattle.psl_model.specs.Expr.{Expr}
use Rattle.psl_model.specs.Valid.{IsValid, parentheses}
use Rattle.psl_model.specs.Sere as sere
use Rattle.psl_model.specs.Formula as formula
use Rattle.psl_model.specs.declared.formulas.Reach.{Reach}
use Rattle.psl_model.specs.declared.formulas.Reach.TheVariants as reach
use Rattle.psl_rewrite.specs.Base.{Base, bool, and, or_bool, implies, always, next, next_all, next_some, until, event}
use Rattle.psl_rewrite.specs.Base.{event_some, seq, eventually, suffix, abort}
use Rattle.psl_rewrite.specs.BaseForm.{suffix_sere}

abbrev pub IsAllowed : (widths : List ℕ) → (limit : ℕ) → Expr → Type 0
IsAllowed widths limit e = IsValid widths e × (parentheses e ≤ limit)

-- ---- expressions

abbrev pub SereHas : (P : Expr → Type 0) → sere.Sere → Type 0
SereHas P (sere.bool e) = P e
SereHas P (sere.concat r s) = SereHas P r × SereHas P s
SereHas P (sere.fuse r s) = SereHas P r × SereHas P s
SereHas P (sere.or r s) = SereHas P r × SereHas P s
SereHas P (sere.both r s) = SereHas P r × SereHas P s
SereHas P (sere.meet r s) = SereHas P r × SereHas P s
SereHas P (sere.within r s) = SereHas P r × SereHas P s
SereHas P (sere.repeat r low high) = SereHas P r
SereHas P (sere.goto e low high) = P e
SereHas P (sere.equal e low high) = P e

abbrev pub FormulaHas : (P : Expr → Type 0) → formula.Formula → Type 0
FormulaHas P (formula.bool e) = P e
FormulaHas P (formula.not f) = FormulaHas P f
FormulaHas P (formula.and f g) = FormulaHas P f × FormulaHas P g
FormulaHas P (formula.or f g) = FormulaHas P f × FormulaHas P g
FormulaHas P (formula.implies f g) = FormulaHas P f × FormulaHas P g
FormulaHas P (formula.iff f g) = FormulaHas P f × FormulaHas P g
FormulaHas P (formula.seq r s) = SereHas P r
FormulaHas P (formula.suffix r later f) = SereHas P r × FormulaHas P f
FormulaHas P (formula.always f) = FormulaHas P f
FormulaHas P (formula.never f) = FormulaHas P f
FormulaHas P (formula.eventually f) = FormulaHas P f
FormulaHas P (formula.next s r low high f) = FormulaHas P f
FormulaHas P (formula.event on s r low high f) = P on × FormulaHas P f
FormulaHas P (formula.until s overlap f g) = FormulaHas P f × FormulaHas P g
FormulaHas P (formula.before s overlap f g) = FormulaHas P f × FormulaHas P g
FormulaHas P (formula.abort f on) = FormulaHas P f × P on

abbrev pub BaseHas : (P : Expr → Type 0) → Base → Type 0
BaseHas P (bool e) = P e
BaseHas P (and f g) = BaseHas P f × BaseHas P g
BaseHas P (or_bool e f) = P e × BaseHas P f
BaseHas P (implies e f) = P e × BaseHas P f
BaseHas P (always f) = BaseHas P f
BaseHas P (next s k f) = BaseHas P f
BaseHas P (next_all s low high f) = BaseHas P f
BaseHas P (next_some s low high e) = P e
BaseHas P (until s f e) = BaseHas P f × P e
BaseHas P (event s on low high f) = P on × BaseHas P f
BaseHas P (event_some s on low high e) = P on × P e
BaseHas P (seq r s) = SereHas P r
BaseHas P (eventually r) = SereHas P r
BaseHas P (suffix r f) = SereHas P r × BaseHas P f
BaseHas P (abort f on) = BaseHas P f × P on

-- ---- counts and ranges

-- the greatest count
abbrev pub count_limit : ℕ
count_limit = 1048576

-- from least to the limit, the upper end not below the lower one
abbrev pub IsRange : (least low high : ℕ) → Type 0
IsRange least low high = (least ≤ low) × (low ≤ high) × (high ≤ count_limit)

-- where no high is `inf`
abbrev pub IsOpenRange : (least low : ℕ) → (high : Option ℕ) → Type 0
IsOpenRange least low (Some high) = IsRange least low high
IsOpenRange least low None = IsRange least low low

-- an operator on one cycle has a range of one number
abbrev pub IsReach : Reach → (least low high : ℕ) → Type 0
IsReach reach.One least low high = (low ≡ high) × IsRange least low high
IsReach reach.All least low high = IsRange least low high
IsReach reach.Some least low high = IsRange least low high

abbrev pub SereCounts : sere.Sere → Type 0
SereCounts (sere.bool e) = Unit {0}
SereCounts (sere.concat r s) = SereCounts r × SereCounts s
SereCounts (sere.fuse r s) = SereCounts r × SereCounts s
SereCounts (sere.or r s) = SereCounts r × SereCounts s
SereCounts (sere.both r s) = SereCounts r × SereCounts s
SereCounts (sere.meet r s) = SereCounts r × SereCounts s
SereCounts (sere.within r s) = SereCounts r × SereCounts s
SereCounts (sere.repeat r low high) = IsOpenRange 0 low high × SereCounts r
SereCounts (sere.goto e low high) = IsOpenRange 1 low high
SereCounts (sere.equal e low high) = IsOpenRange 0 low high

abbrev pub FormulaCounts : formula.Formula → Type 0
FormulaCounts (formula.bool e) = Unit {0}
FormulaCounts (formula.not f) = FormulaCounts f
FormulaCounts (formula.and f g) = FormulaCounts f × FormulaCounts g
FormulaCounts (formula.or f g) = FormulaCounts f × FormulaCounts g
FormulaCounts (formula.implies f g) = FormulaCounts f × FormulaCounts g
FormulaCounts (formula.iff f g) = FormulaCounts f × FormulaCounts g
FormulaCounts (formula.seq r s) = SereCounts r
FormulaCounts (formula.suffix r later f) = SereCounts r × FormulaCounts f
FormulaCounts (formula.always f) = FormulaCounts f
FormulaCounts (formula.never f) = FormulaCounts f
FormulaCounts (formula.eventually f) = FormulaCounts f
FormulaCounts (formula.next s r low high f) = IsReach r 0 low high × FormulaCounts f
FormulaCounts (formula.event on s r low high f) = IsReach r 1 low high × FormulaCounts f
FormulaCounts (formula.until s overlap f g) = FormulaCounts f × FormulaCounts g
FormulaCounts (formula.before s overlap f g) = FormulaCounts f × FormulaCounts g
FormulaCounts (formula.abort f on) = FormulaCounts f

abbrev pub BaseCounts : Base → Type 0
BaseCounts (bool e) = Unit {0}
BaseCounts (and f g) = BaseCounts f × BaseCounts g
BaseCounts (or_bool e f) = BaseCounts f
BaseCounts (implies e f) = BaseCounts f
BaseCounts (always f) = BaseCounts f
BaseCounts (next s k f) = (k ≤ count_limit) × BaseCounts f
BaseCounts (next_all s low high f) = IsRange 0 low high × BaseCounts f
BaseCounts (next_some s low high e) = IsRange 0 low high
BaseCounts (until s f e) = BaseCounts f
BaseCounts (event s on low high f) = IsRange 1 low high × BaseCounts f
BaseCounts (event_some s on low high e) = IsRange 1 low high
BaseCounts (seq r s) = SereCounts r
BaseCounts (eventually r) = SereCounts r
BaseCounts (suffix r f) = SereCounts r × BaseCounts f
BaseCounts (abort f on) = BaseCounts f

-- ---- sequences

-- that of `|=>` has a cycle more
abbrev pub formula_sequences : formula.Formula → List sere.Sere
formula_sequences (formula.bool e) = []
formula_sequences (formula.not f) = formula_sequences f
formula_sequences (formula.and f g) = formula_sequences f ++ formula_sequences g
formula_sequences (formula.or f g) = formula_sequences f ++ formula_sequences g
formula_sequences (formula.implies f g) = formula_sequences f ++ formula_sequences g
formula_sequences (formula.iff f g) = formula_sequences f ++ formula_sequences g
formula_sequences (formula.seq r s) = r ∷ []
formula_sequences (formula.suffix r later f) = suffix_sere later r ∷ formula_sequences f
formula_sequences (formula.always f) = formula_sequences f
formula_sequences (formula.never f) = formula_sequences f
formula_sequences (formula.eventually f) = formula_sequences f
formula_sequences (formula.next s r low high f) = formula_sequences f
formula_sequences (formula.event on s r low high f) = formula_sequences f
formula_sequences (formula.until s overlap f g) = formula_sequences f ++ formula_sequences g
formula_sequences (formula.before s overlap f g) = formula_sequences f ++ formula_sequences g
formula_sequences (formula.abort f on) = formula_sequences f

abbrev pub base_sequences : Base → List sere.Sere
base_sequences (bool e) = []
base_sequences (and f g) = base_sequences f ++ base_sequences g
base_sequences (or_bool e f) = base_sequences f
base_sequences (implies e f) = base_sequences f
base_sequences (always f) = base_sequences f
base_sequences (next s k f) = base_sequences f
base_sequences (next_all s low high f) = base_sequences f
base_sequences (next_some s low high e) = []
base_sequences (until s f e) = base_sequences f
base_sequences (event s on low high f) = base_sequences f
base_sequences (event_some s on low high e) = []
base_sequences (seq r s) = r ∷ []
base_sequences (eventually r) = r ∷ []
base_sequences (suffix r f) = r ∷ base_sequences f
base_sequences (abort f on) = base_sequences f
