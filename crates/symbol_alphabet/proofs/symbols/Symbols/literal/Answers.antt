use Rattle.std.proofs.Common.{◌≡◌, ◌∙◌, ◌∷◌, [], length, sym, ap, List}
use Rattle.std.proofs.lemmas.Result.{on_ok_weaker}
use Rattle.psl_model.specs.Expr.{Expr}
use Rattle.psl_model.specs.View.{expr_of}
use Rattle.symbol_alphabet.specs.Symbols.{same, place_in}
use Rattle.symbol_alphabet.proofs.Found.{found_any, not_found, place_at_end}
use Rattle.symbol_alphabet.proofs.Labels.{same_decides, numbered_there, numbered_new}
use Rattle.symbol_alphabet.proofs.Made.{on_ok, if_both}
use Rattle.symbol_alphabet.proofs.symbols.Symbols.literal.Goals as goal

pub new_literal-requires : goal.new_literal-requires
new_literal-requires c =
    not_found same same_decides c.args.self.now (expr_of c.args.expr.now) (sym c.number.ensures ∙ c.in-None.is)

pub returns-in-Some-clause-symbols : goal.returns-in-Some-clause-symbols
returns-in-Some-clause-symbols c =
    let symbols = c.args.self.now in
    let e = expr_of c.args.expr.now in
    on_ok c.one_literal.result (sym (numbered_there symbols e
    (found_any same same_decides symbols e c.in-Some.symbol (sym c.number.ensures ∙ c.in-Some.is))))

pub returns-in-None-clause-symbols : goal.returns-in-None-clause-symbols
returns-in-None-clause-symbols c =
    let symbols = c.args.self.now in
    let e = expr_of c.args.expr.now in
    let out = not_found same same_decides symbols e (sym c.number.ensures ∙ c.in-None.is) in
    on_ok_weaker c.new_literal.result (λ s. s ∙ sym (numbered_new symbols e out)) c.new_literal.ensures.symbols

pub returns-in-None-clause-label : goal.returns-in-None-clause-label
returns-in-None-clause-label c =
    let symbols = c.args.self.now in
    let e = expr_of c.args.expr.now in
    let out = not_found same same_decides symbols e (sym c.number.ensures ∙ c.in-None.is) in
    if_both c.new_literal.result
    (λ label l s.
    let at : length symbols ≡ place_in c.new_literal.new.self e =
    sym (ap (λ (more : List Expr). place_in more e) s ∙ place_at_end same same_decides symbols e out) in
    l ∙ (λ i. record { symbol = at i; positive = c.args.positive } ∷ []))
    c.new_literal.ensures.label c.new_literal.ensures.symbols
