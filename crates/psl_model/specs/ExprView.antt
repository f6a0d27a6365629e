-- From one layer of an expression, whose operands are plain trees already, to the plain tree.
use Rattle.psl_model.specs.Expr as tree
use Rattle.psl_model.specs.declared.expressions.Expr.{Expr}
use Rattle.psl_model.specs.declared.expressions.Expr.TheVariants.{Whole, Bit, Part, Plain, Sized, Unary, Binary, Choice}

abbrev pub expr_of : Expr → tree.Expr
expr_of (Whole s) = tree.whole s
expr_of (Bit s n) = tree.bit s n
expr_of (Part s h l) = tree.part s h l
expr_of (Plain n) = tree.plain n
expr_of (Sized w v) = tree.sized w v
expr_of (Unary o a) = tree.unary o a
expr_of (Binary o a b) = tree.binary o a b
expr_of (Choice t y n) = tree.choice t y n
