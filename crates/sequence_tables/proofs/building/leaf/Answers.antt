use Rattle.std.proofs.Common.{ap}
use Rattle.std.proofs.lemmas.Result.{IfOk-weaker}
use Rattle.psl_model.specs.View.{expr_of}
use Rattle.sequence_tables.proofs.Origins.{leaf_origin}
use Rattle.sequence_tables.proofs.Tables.{leaf_stands}
use Rattle.sequence_tables.proofs.building.leaf.Goals as goal

pub returns-clause-stands : goal.returns-clause-stands
returns-clause-stands c =
    IfOk-weaker c.made.result _ _
    (λ t made. leaf_stands (expr_of c.args.expr.now) c.label.new.self c.in_ok-label.ensures.numbered
    c.later_symbols_change_no_label.ensures.label c.later_symbols_change_no_label.ensures.numbered
    c.a_label_is_one_literal.ensures.within
    c.a_label_holds_as_its_expression.ensures c.new.result.label c.in_ok-label.label t
    (ap (λ z. z.label) c.new.ensures.made) c.in_ok-label.ensures.label c.new.ensures.words made)
    c.made.ensures

pub returns-clause-origins : goal.returns-clause-origins
returns-clause-origins c =
    leaf_origin c.args.symbols.now c.label.new.self (expr_of c.args.expr.now) c.in_ok-label.ensures.symbols
