use Rattle.std.proofs.Common.{ℕ, ◌^◌, ◌<◌, ap, subst, ◌∙◌, rules}
use Rattle.psl_model.specs.Value.{width_of, right_context}
use Rattle.psl_model.specs.View.{expr_of}
use Rattle.psl_model.proofs.Fits.{fits_as}
use Rattle.psl_model.proofs.expressions.Expr.+worth.Goals as goal

pub unary-requires-clause-fits : goal.unary-requires-clause-fits
unary-requires-clause-fits t c =
    fits_as c.args.widths.now c.args.values.now c.unary_context-taken.result (expr_of c.get-in-Unary.result.now)
    c.worth.result c.requires.fit (search rules) (search rules) c.worth.ensures

pub binary-requires-clause-taken_away : goal.binary-requires-clause-taken_away
binary-requires-clause-taken_away t c =
    λ is_sub.
    let y_fits = fits_as c.args.widths.now c.args.values.now c.contexts-at_left.result.1
        (expr_of c.get-in-Binary-4.result.now) c.worth-y.result c.requires.fit (search rules) (search rules) c.worth-y.ensures in
    let v = width_of c.args.widths.now (expr_of c.get-in-Binary.result.now) in
    let w = width_of c.args.widths.now (expr_of c.get-in-Binary-2.result.now) in
    let context = c.contexts-at_left.ensures.right ∙ ap (λ o. right_context o c.args.width v w) is_sub in
    subst (λ (n : ℕ). c.worth-y.result < 2 ^ n) context y_fits
