-- A layer of the code's types is told by its tree.
use Rattle.std.proofs.Common.{◌≡◌, refl, sym, ap, ◌∙◌}
use Rattle.psl_model.specs.Expr as expr
use Rattle.psl_model.specs.Sere as sere
use Rattle.psl_model.specs.View.{expr_of, sere_of}
use Rattle.psl_model.specs.declared.expressions.Expr.{Expr}
use Rattle.psl_model.specs.declared.expressions.Expr.TheVariants.{Whole, Bit, Part, Plain, Sized, Unary, Binary, Choice}
use Rattle.psl_model.specs.declared.sequences.Sere.{Sere}
use Rattle.psl_model.specs.declared.sequences.Sere.TheVariants as variant

layer_of_expr : expr.Expr → Expr
layer_of_expr (expr.whole s) = Whole s
layer_of_expr (expr.bit s n) = Bit s n
layer_of_expr (expr.part s h l) = Part s h l
layer_of_expr (expr.plain n) = Plain n
layer_of_expr (expr.sized w v) = Sized w v
layer_of_expr (expr.unary o a) = Unary o a
layer_of_expr (expr.binary o a b) = Binary o a b
layer_of_expr (expr.choice t y n) = Choice t y n

layer_of_expr-expr_of : (e : Expr) → layer_of_expr (expr_of e) ≡ e
unfolding layer_of_expr
layer_of_expr-expr_of (Whole s) = refl
layer_of_expr-expr_of (Bit s n) = refl
layer_of_expr-expr_of (Part s h l) = refl
layer_of_expr-expr_of (Plain n) = refl
layer_of_expr-expr_of (Sized w v) = refl
layer_of_expr-expr_of (Unary o a) = refl
layer_of_expr-expr_of (Binary o a b) = refl
layer_of_expr-expr_of (Choice t y n) = refl

pub expr_of-inj : (a b : Expr) → expr_of a ≡ expr_of b → a ≡ b
expr_of-inj a b e = sym (layer_of_expr-expr_of a) ∙ ap layer_of_expr e ∙ layer_of_expr-expr_of b

layer_of_sere : sere.Sere → Sere
layer_of_sere (sere.bool e) = variant.Bool (layer_of_expr e)
layer_of_sere (sere.concat a b) = variant.Then a b
layer_of_sere (sere.fuse a b) = variant.Fuse a b
layer_of_sere (sere.or a b) = variant.Or a b
layer_of_sere (sere.both a b) = variant.Both a b
layer_of_sere (sere.meet a b) = variant.Meet a b
layer_of_sere (sere.within a b) = variant.Within a b
layer_of_sere (sere.repeat a l h) = variant.Repeat a l h
layer_of_sere (sere.goto e l h) = variant.Goto (layer_of_expr e) l h
layer_of_sere (sere.equal e l h) = variant.Equal (layer_of_expr e) l h

layer_of_sere-sere_of : (r : Sere) → layer_of_sere (sere_of r) ≡ r
unfolding layer_of_sere
layer_of_sere-sere_of (variant.Bool e) = ap variant.Bool (layer_of_expr-expr_of e)
layer_of_sere-sere_of (variant.Then a b) = refl
layer_of_sere-sere_of (variant.Fuse a b) = refl
layer_of_sere-sere_of (variant.Or a b) = refl
layer_of_sere-sere_of (variant.Both a b) = refl
layer_of_sere-sere_of (variant.Meet a b) = refl
layer_of_sere-sere_of (variant.Within a b) = refl
layer_of_sere-sere_of (variant.Repeat a l h) = refl
layer_of_sere-sere_of (variant.Goto e l h) = ap (λ x. variant.Goto x l h) (layer_of_expr-expr_of e)
layer_of_sere-sere_of (variant.Equal e l h) = ap (λ x. variant.Equal x l h) (layer_of_expr-expr_of e)

pub sere_of-inj : (a b : Sere) → sere_of a ≡ sere_of b → a ≡ b
sere_of-inj a b e = sym (layer_of_sere-sere_of a) ∙ ap layer_of_sere e ∙ layer_of_sere-sere_of b
