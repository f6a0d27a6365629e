use Rattle.std.proofs.Common.{◌≡◌, ◌&&◌, sym, ap, ◌∙◌}
use Rattle.psl_grammar.specs.RawExpr.{RawExpr, binary}
use Rattle.psl_grammar.specs.View.{expr_of}
use Rattle.psl_model.specs.Valid.{wants_width}
use Rattle.unit_rules.specs.Source.{source, kind_at}
use Rattle.unit_rules.specs.Operators.{bin_op_of}
use Rattle.unit_rules.specs.Faults.{is_bare}
use Rattle.unit_rules.proofs.Judged.{binary_visited}
use Rattle.unit_rules.proofs.walking.+walk_expr.Goals as goal

pub returns-in_ok-right_bare-in-Binary-clause-visited : goal.returns-in_ok-right_bare-in-Binary-clause-visited
returns-in_ok-right_bare-in-Binary-clause-visited t c =
    let e : expr_of c.args.expr.now
    ≡ binary c.in-Binary.mark (expr_of c.get-in-Binary.result.now) (expr_of c.get-in-Binary-3.result.now) =
    ap expr_of c.in-Binary.is
    ∙ (λ i. binary c.in-Binary.mark (sym c.get-in-Binary.ensures.whole_tree i)
    (sym c.get-in-Binary-3.ensures.whole_tree i)) in
    let s = source c.args.text.now c.args.tokens.now in
    let same : expr_of c.get-in-Binary-2.result.now ≡ expr_of c.get-in-Binary-3.result.now =
    c.get-in-Binary-2.ensures.whole_tree ∙ sym c.get-in-Binary-3.ensures.whole_tree in
    binary_visited s _ _ _ _ (expr_of c.args.expr.now) (expr_of c.get-in-Binary.result.now)
    (expr_of c.get-in-Binary-3.result.now) c.in-Binary.mark _ _ e c.in_ok-left_bare-in-Binary.ensures.visited
    c.in_ok-left_bare-in-Binary.ensures.bare
    (c.is_constant-broken.ensures
    ∙ ap (λ (b : RawExpr). wants_width (bin_op_of (kind_at s c.in-Binary.mark))
    && (c.in_ok-left_bare-in-Binary.left_bare && is_bare s b)) same)
    c.in_ok-operator-in-Binary.ensures c.in_ok-right_bare-in-Binary.ensures.visited
