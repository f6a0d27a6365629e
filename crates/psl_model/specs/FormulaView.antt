-- From one layer of a formula, whose parts are plain trees already, to the plain tree.
use Rattle.psl_model.specs.Formula as tree
use Rattle.psl_model.specs.ExprView.{expr_of}
use Rattle.psl_model.specs.SereView.{sere_of}
use Rattle.psl_model.specs.declared.formulas.Formula.{Formula}
use Rattle.psl_model.specs.declared.formulas.Formula.TheVariants.{Bool, Not, And, Or, Implies, Iff, Seq, Suffix}
use Rattle.psl_model.specs.declared.formulas.Formula.TheVariants.{Always, Never, Eventually, Next, Event, Until}
use Rattle.psl_model.specs.declared.formulas.Formula.TheVariants.{Before, Abort}

abbrev pub formula_of : Formula → tree.Formula
formula_of (Bool e) = tree.bool (expr_of e)
formula_of (Not f) = tree.not f
formula_of (And f g) = tree.and f g
formula_of (Or f g) = tree.or f g
formula_of (Implies f g) = tree.implies f g
formula_of (Iff f g) = tree.iff f g
formula_of (Seq r s) = tree.seq (sere_of r) s
formula_of (Suffix r l f) = tree.suffix (sere_of r) l f
formula_of (Always f) = tree.always f
formula_of (Never f) = tree.never f
formula_of (Eventually f) = tree.eventually f
formula_of (Next s r l h f) = tree.next s r l h f
formula_of (Event e s r l h f) = tree.event (expr_of e) s r l h f
formula_of (Until s o f g) = tree.until s o f g
formula_of (Before s o f g) = tree.before s o f g
formula_of (Abort f e) = tree.abort f (expr_of e)
