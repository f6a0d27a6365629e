-- Which signals an expression, a sequence or a formula uses.
use Rattle.std.specs.Prelude.{ℕ, zero, suc, Bool, false, ◌==◌, ◌||◌, List, [], ◌∷◌, filter}
use Rattle.psl_model.specs.Expr.{Expr, whole, bit, part, plain, sized, unary, binary, choice}
use Rattle.psl_model.specs.Sere as sere
use Rattle.psl_model.specs.Formula as formula

abbrev pub expr_uses : ℕ → Expr → Bool
expr_uses place (whole signal) = signal == place
expr_uses place (bit signal number) = signal == place
expr_uses place (part signal high low) = signal == place
expr_uses place (plain number) = false
expr_uses place (sized width value) = false
expr_uses place (unary op a) = expr_uses place a
expr_uses place (binary op a b) = expr_uses place a || expr_uses place b
expr_uses place (choice test first second) = expr_uses place test || (expr_uses place first || expr_uses place second)

abbrev pub sere_uses : ℕ → sere.Sere → Bool
sere_uses place (sere.bool e) = expr_uses place e
sere_uses place (sere.concat r s) = sere_uses place r || sere_uses place s
sere_uses place (sere.fuse r s) = sere_uses place r || sere_uses place s
sere_uses place (sere.or r s) = sere_uses place r || sere_uses place s
sere_uses place (sere.both r s) = sere_uses place r || sere_uses place s
sere_uses place (sere.meet r s) = sere_uses place r || sere_uses place s
sere_uses place (sere.within r s) = sere_uses place r || sere_uses place s
sere_uses place (sere.repeat r low high) = sere_uses place r
sere_uses place (sere.goto e low high) = expr_uses place e
sere_uses place (sere.equal e low high) = expr_uses place e

abbrev pub formula_uses : ℕ → formula.Formula → Bool
formula_uses place (formula.bool e) = expr_uses place e
formula_uses place (formula.not f) = formula_uses place f
formula_uses place (formula.and f g) = formula_uses place f || formula_uses place g
formula_uses place (formula.or f g) = formula_uses place f || formula_uses place g
formula_uses place (formula.implies f g) = formula_uses place f || formula_uses place g
formula_uses place (formula.iff f g) = formula_uses place f || formula_uses place g
formula_uses place (formula.seq r strong) = sere_uses place r
formula_uses place (formula.suffix r later f) = sere_uses place r || formula_uses place f
formula_uses place (formula.always f) = formula_uses place f
formula_uses place (formula.never f) = formula_uses place f
formula_uses place (formula.eventually f) = formula_uses place f
formula_uses place (formula.next strong reach low high f) = formula_uses place f
formula_uses place (formula.event on strong reach low high f) = expr_uses place on || formula_uses place f
formula_uses place (formula.until strong overlap f g) = formula_uses place f || formula_uses place g
formula_uses place (formula.before strong overlap f g) = formula_uses place f || formula_uses place g
formula_uses place (formula.abort f on) = formula_uses place f || expr_uses place on

-- the numbers below n, in order
abbrev pub below : ℕ → List ℕ
below n = from n 0 where
  from : ℕ → ℕ → List ℕ
  from zero k = []
  from (suc m) k = k ∷ from m (suc k)

-- the places that a formula uses, of `count` signals, in their order
abbrev pub used_places : (count : ℕ) → formula.Formula → List ℕ
used_places count f = filter (λ place. formula_uses place f) (below count)
