-- Expressions, sequences and formulas with their signals named anew.
--     expr_named name e, sere_named name r, formula_named name f     each signal's place is what `name` gives
--     over_expr places e, over_sere places r, over places f          it is the signal's position among the places
use Rattle.std.specs.Prelude.{ℕ, List}
use Rattle.psl_model.specs.Expr.{Expr, whole, bit, part, plain, sized, unary, binary, choice}
use Rattle.psl_model.specs.Sere as sere
use Rattle.psl_model.specs.Sere.{Sere}
use Rattle.psl_model.specs.Formula as formula
use Rattle.psl_model.specs.Formula.{Formula}
use Rattle.port_formulas.specs.Chosen.{position_in}

abbrev pub expr_named : (name : ℕ → ℕ) → Expr → Expr
expr_named name (whole signal) = whole (name signal)
expr_named name (bit signal place) = bit (name signal) place
expr_named name (part signal high low) = part (name signal) high low
expr_named name (plain number) = plain number
expr_named name (sized width value) = sized width value
expr_named name (unary op a) = unary op (expr_named name a)
expr_named name (binary op a b) = binary op (expr_named name a) (expr_named name b)
expr_named name (choice test first second) =
    choice (expr_named name test) (expr_named name first) (expr_named name second)

abbrev pub sere_named : (name : ℕ → ℕ) → Sere → Sere
sere_named name (sere.bool e) = sere.bool (expr_named name e)
sere_named name (sere.concat r s) = sere.concat (sere_named name r) (sere_named name s)
sere_named name (sere.fuse r s) = sere.fuse (sere_named name r) (sere_named name s)
sere_named name (sere.or r s) = sere.or (sere_named name r) (sere_named name s)
sere_named name (sere.both r s) = sere.both (sere_named name r) (sere_named name s)
sere_named name (sere.meet r s) = sere.meet (sere_named name r) (sere_named name s)
sere_named name (sere.within r s) = sere.within (sere_named name r) (sere_named name s)
sere_named name (sere.repeat r low high) = sere.repeat (sere_named name r) low high
sere_named name (sere.goto e low high) = sere.goto (expr_named name e) low high
sere_named name (sere.equal e low high) = sere.equal (expr_named name e) low high

abbrev pub formula_named : (name : ℕ → ℕ) → Formula → Formula
formula_named name (formula.bool e) = formula.bool (expr_named name e)
formula_named name (formula.not f) = formula.not (formula_named name f)
formula_named name (formula.and f g) = formula.and (formula_named name f) (formula_named name g)
formula_named name (formula.or f g) = formula.or (formula_named name f) (formula_named name g)
formula_named name (formula.implies f g) = formula.implies (formula_named name f) (formula_named name g)
formula_named name (formula.iff f g) = formula.iff (formula_named name f) (formula_named name g)
formula_named name (formula.seq r strong) = formula.seq (sere_named name r) strong
formula_named name (formula.suffix r later f) = formula.suffix (sere_named name r) later (formula_named name f)
formula_named name (formula.always f) = formula.always (formula_named name f)
formula_named name (formula.never f) = formula.never (formula_named name f)
formula_named name (formula.eventually f) = formula.eventually (formula_named name f)
formula_named name (formula.next strong reach low high f) = formula.next strong reach low high (formula_named name f)
formula_named name (formula.event on strong reach low high f) =
    formula.event (expr_named name on) strong reach low high (formula_named name f)
formula_named name (formula.until strong overlap f g) =
    formula.until strong overlap (formula_named name f) (formula_named name g)
formula_named name (formula.before strong overlap f g) =
    formula.before strong overlap (formula_named name f) (formula_named name g)
formula_named name (formula.abort f on) = formula.abort (formula_named name f) (expr_named name on)

abbrev pub over_expr : (places : List ℕ) → Expr → Expr
over_expr places e = expr_named (position_in places) e

abbrev pub over_sere : (places : List ℕ) → Sere → Sere
over_sere places r = sere_named (position_in places) r

abbrev pub over : (places : List ℕ) → Formula → Formula
over places f = formula_named (position_in places) f
