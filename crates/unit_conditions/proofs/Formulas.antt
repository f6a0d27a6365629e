-- What holds of each expression twice holds of each together.
use Rattle.psl_model.specs.Expr.{Expr}
use Rattle.psl_model.specs.Sere as s
use Rattle.psl_model.specs.Formula as f
use Rattle.psl_units.specs.Having as units
use Rattle.psl_rewrite.specs.Conditions.{SereHas, FormulaHas}

module _ (P Q : Expr → Type 0) where
  abbrev pub Both : Expr → Type 0
  Both e = P e × Q e

  sere_both : (r : s.Sere) → units.SereHas P r → SereHas Q r → SereHas Both r
  sere_both (s.bool e) h g = (h, g)
  sere_both (s.concat r t) h g = (sere_both r h.0 g.0, sere_both t h.1 g.1)
  sere_both (s.fuse r t) h g = (sere_both r h.0 g.0, sere_both t h.1 g.1)
  sere_both (s.or r t) h g = (sere_both r h.0 g.0, sere_both t h.1 g.1)
  sere_both (s.both r t) h g = (sere_both r h.0 g.0, sere_both t h.1 g.1)
  sere_both (s.meet r t) h g = (sere_both r h.0 g.0, sere_both t h.1 g.1)
  sere_both (s.within r t) h g = (sere_both r h.0 g.0, sere_both t h.1 g.1)
  sere_both (s.repeat r low high) h g = sere_both r h g
  sere_both (s.goto e low high) h g = (h, g)
  sere_both (s.equal e low high) h g = (h, g)

  pub formula_both : (b : f.Formula) → units.FormulaHas P b → FormulaHas Q b → FormulaHas Both b
  formula_both (f.bool e) h g = (h, g)
  formula_both (f.not b) h g = formula_both b h g
  formula_both (f.and b c) h g = (formula_both b h.0 g.0, formula_both c h.1 g.1)
  formula_both (f.or b c) h g = (formula_both b h.0 g.0, formula_both c h.1 g.1)
  formula_both (f.implies b c) h g = (formula_both b h.0 g.0, formula_both c h.1 g.1)
  formula_both (f.iff b c) h g = (formula_both b h.0 g.0, formula_both c h.1 g.1)
  formula_both (f.seq r strong) h g = sere_both r h g
  formula_both (f.suffix r later b) h g = (sere_both r h.0 g.0, formula_both b h.1 g.1)
  formula_both (f.always b) h g = formula_both b h g
  formula_both (f.never b) h g = formula_both b h g
  formula_both (f.eventually b) h g = formula_both b h g
  formula_both (f.next strong reach low high b) h g = formula_both b h g
  formula_both (f.event on strong reach low high b) h g = ((h.0, g.0), formula_both b h.1 g.1)
  formula_both (f.until strong overlap b c) h g = (formula_both b h.0 g.0, formula_both c h.1 g.1)
  formula_both (f.before strong overlap b c) h g = (formula_both b h.0 g.0, formula_both c h.1 g.1)
  formula_both (f.abort b on) h g = (formula_both b h.0 g.0, (h.1, g.1))
