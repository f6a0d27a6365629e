-- What each expression of a sequence, a formula or a unit has, those in sequences too.
--     SereHas P r, FormulaHas P f      P of each expression
--     HasValidExprs unit               each expression is valid for the unit's signals
use Rattle.std.specs.Prelude.{ℕ, List, All, map}
use Rattle.psl_model.specs.declared.names.Signal.{Signal}
use Rattle.psl_model.specs.Expr.{Expr}
use Rattle.psl_model.specs.Sere as sere
use Rattle.psl_model.specs.Formula as formula
use Rattle.psl_model.specs.Unit.{PslUnit}
use Rattle.psl_model.specs.Valid.{IsValid}

abbrev pub SereHas : (P : Expr → Type 0) → sere.Sere → Type 0
SereHas P (sere.bool e) = P e
SereHas P (sere.concat r t) = SereHas P r × SereHas P t
SereHas P (sere.fuse r t) = SereHas P r × SereHas P t
SereHas P (sere.or r t) = SereHas P r × SereHas P t
SereHas P (sere.both r t) = SereHas P r × SereHas P t
SereHas P (sere.meet r t) = SereHas P r × SereHas P t
SereHas P (sere.within r t) = SereHas P r × SereHas P t
SereHas P (sere.repeat r low high) = SereHas P r
SereHas P (sere.goto e low high) = P e
SereHas P (sere.equal e low high) = P e

abbrev pub FormulaHas : (P : Expr → Type 0) → formula.Formula → Type 0
FormulaHas P (formula.bool e) = P e
FormulaHas P (formula.not f) = FormulaHas P f
FormulaHas P (formula.and f g) = FormulaHas P f × FormulaHas P g
FormulaHas P (formula.or f g) = FormulaHas P f × FormulaHas P g
FormulaHas P (formula.implies f g) = FormulaHas P f × FormulaHas P g
FormulaHas P (formula.iff f g) = FormulaHas P f × FormulaHas P g
FormulaHas P (formula.seq r strong) = SereHas P r
FormulaHas P (formula.suffix r later f) = SereHas P r × FormulaHas P f
FormulaHas P (formula.always f) = FormulaHas P f
FormulaHas P (formula.never f) = FormulaHas P f
FormulaHas P (formula.eventually f) = FormulaHas P f
FormulaHas P (formula.next strong reach low high f) = FormulaHas P f
FormulaHas P (formula.event on strong reach low high f) = P on × FormulaHas P f
FormulaHas P (formula.until strong overlap f g) = FormulaHas P f × FormulaHas P g
FormulaHas P (formula.before strong overlap f g) = FormulaHas P f × FormulaHas P g
FormulaHas P (formula.abort f on) = FormulaHas P f × P on

abbrev pub unit_widths : PslUnit → List ℕ
unit_widths unit = map (λ (signal : Signal). signal.width) unit.signals

abbrev pub HasValidExprs : PslUnit → Type 0
HasValidExprs unit = All (λ d. FormulaHas (IsValid (unit_widths unit)) d.formula) unit.directives
