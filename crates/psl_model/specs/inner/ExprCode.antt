-- How the logic stores an expression: a code, and that no two expressions have one code.
use Rattle.std.specs.Prelude.{◌≡◌, refl}
use Rattle.std.specs.Coded.{Coded}
use base.Stored.{Gv, gnum, gcons}
use Rattle.psl_model.specs.inner.CodeParts.{at, from, number, tags_differ, variant_code, variant_inj}
use Rattle.psl_model.specs.contracts.operators.UnOp as un_op
use Rattle.psl_model.specs.contracts.operators.BinOp as bin_op
use Rattle.psl_model.specs.declared.operators.UnOp.{UnOp}
use Rattle.psl_model.specs.declared.operators.BinOp.{BinOp}
use Rattle.psl_model.specs.Expr.{Expr, whole, bit, part, plain, sized, unary, binary, choice}

abbrev pub un_code : UnOp → Gv
un_code o = variant_code un_op.the_type o

abbrev pub bin_code : BinOp → Gv
bin_code o = variant_code bin_op.the_type o

pub un_inj : (o p : UnOp) → un_code o ≡ un_code p → o ≡ p
un_inj o p e = variant_inj un_op.the_type tt o p e

pub bin_inj : (o p : BinOp) → bin_code o ≡ bin_code p → o ≡ p
bin_inj o p e = variant_inj bin_op.the_type tt o p e

abbrev pub expr_code : Expr → Gv
expr_code (whole s) = gcons (gnum 0) (gnum s)
expr_code (bit s n) = gcons (gnum 1) (gcons (gnum s) (gnum n))
expr_code (part s h l) = gcons (gnum 2) (gcons (gnum s) (gcons (gnum h) (gnum l)))
expr_code (plain n) = gcons (gnum 3) (gnum n)
expr_code (sized w v) = gcons (gnum 4) (gcons (gnum w) (gnum v))
expr_code (unary o a) = gcons (gnum 5) (gcons (un_code o) (expr_code a))
expr_code (binary o a b) = gcons (gnum 6) (gcons (bin_code o) (gcons (expr_code a) (expr_code b)))
expr_code (choice t y n) = gcons (gnum 7) (gcons (expr_code t) (gcons (expr_code y) (expr_code n)))

pub expr_inj : (x y : Expr) → expr_code x ≡ expr_code y → x ≡ y
expr_inj (whole s) (whole s') p = λ i. whole (number (from 1 p) i)
expr_inj (bit s n) (bit s' n') p = λ i. bit (number (at 1 p) i) (number (from 2 p) i)
expr_inj (part s h l) (part s' h' l') p =
    λ i. part (number (at 1 p) i) (number (at 2 p) i) (number (from 3 p) i)
expr_inj (plain n) (plain n') p = λ i. plain (number (from 1 p) i)
expr_inj (sized w v) (sized w' v') p = λ i. sized (number (at 1 p) i) (number (from 2 p) i)
expr_inj (unary o a) (unary o' a') p = λ i. unary (un_inj o o' (at 1 p) i) (expr_inj a a' (from 2 p) i)
expr_inj (binary o a b) (binary o' a' b') p =
    λ i. binary (bin_inj o o' (at 1 p) i) (expr_inj a a' (at 2 p) i) (expr_inj b b' (from 3 p) i)
expr_inj (choice t y n) (choice t' y' n') p =
    λ i. choice (expr_inj t t' (at 1 p) i) (expr_inj y y' (at 2 p) i) (expr_inj n n' (from 3 p) i)
expr_inj x y p = absurd (tags_differ (expr_code x) (expr_code y) refl refl p)

abbrev pub coded_expr : Coded Expr
coded_expr = record { code = expr_code; inj = expr_inj }
