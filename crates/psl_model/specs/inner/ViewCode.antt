-- The code of the tree that a layer of the code's types stands for, and what `==` answers of two layers.
use Rattle.std.specs.Prelude.{Bool}
use base.Stored.{Gv}
use Rattle.psl_model.specs.View.{expr_of, sere_of}
use Rattle.psl_model.specs.inner.SameCode.{same_code}
use Rattle.psl_model.specs.inner.ExprCode.{expr_code}
use Rattle.psl_model.specs.inner.SereCode.{sere_code}
use Rattle.psl_model.specs.declared.expressions.Expr.{Expr}
use Rattle.psl_model.specs.declared.sequences.Sere.{Sere}

abbrev pub code_of_expr : Expr → Gv
code_of_expr e = expr_code (expr_of e)

abbrev pub code_of_sere : Sere → Gv
code_of_sere r = sere_code (sere_of r)

abbrev pub same_expr : Expr → Expr → Bool
same_expr a b = same_code (code_of_expr a) (code_of_expr b)

abbrev pub same_sere : Sere → Sere → Bool
same_sere a b = same_code (code_of_sere a) (code_of_sere b)
