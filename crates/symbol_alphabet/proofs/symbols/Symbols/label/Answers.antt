use Rattle.std.proofs.Common.{◌≡◌, ◌↔◌, ◌<◌, ◌∙◌, All, List, [], true, false, inl, length, sym, subst}
use Rattle.std.proofs.Common.{append-nil}
use Rattle.std.proofs.lemmas.Result.{on_ok_weaker}
use Rattle.auto_core.specs.Machine.{Passes}
use Rattle.auto_core.specs.declared.labels.Literal.{Literal}
use Rattle.psl_meaning.specs.Sequence.{Holds}
use Rattle.psl_model.specs.View.{expr_of}
use Rattle.symbol_alphabet.specs.Symbols.{needs_none, seen_by}
use Rattle.symbol_alphabet.proofs.Labels.{no_literal, within, passes_holds}
use Rattle.symbol_alphabet.proofs.Made.{if_both, made_grows, made_has, made_label}
use Rattle.symbol_alphabet.proofs.symbols.Symbols.label.Goals as goal

pub returns-then-needs_none-clause-holds : goal.returns-then-needs_none-clause-holds
returns-then-needs_none-clause-holds c widths a out =
    let symbols = c.args.self.now in
    let e = expr_of c.args.expr.now in
    let h : needs_none e ≡ true = cc in
    subst (λ (label : List Literal). Passes label (seen_by widths symbols a) ↔ Holds widths e a)
    (no_literal symbols e h ∙ sym c.new.ensures) (passes_holds widths symbols e a (inl h) out)

pub returns-then-needs_none-clause-grows : goal.returns-then-needs_none-clause-grows
returns-then-needs_none-clause-grows c = ([], sym (append-nil c.args.self.now))

pub returns-clause-grows : goal.returns-clause-grows
returns-clause-grows c =
    made_grows c.literal.result c.args.self.now c.literal.new.self (expr_of c.stripped.result.now)
    c.literal.ensures.symbols c.literal.ensures.unchanged

pub returns-clause-numbered : goal.returns-clause-numbered
returns-clause-numbered c =
    let e = expr_of c.args.expr.now in
    let h : needs_none e ≡ false = cc in
    on_ok_weaker c.literal.result
    (made_has c.args.self.now c.literal.new.self e (expr_of c.stripped.result.now) h c.stripped.ensures)
    c.literal.ensures.symbols

pub returns-clause-within : goal.returns-clause-within
returns-clause-within c =
    let e = expr_of c.args.expr.now in
    let rest = expr_of c.stripped.result.now in
    let h : needs_none e ≡ false = cc in
    let new = c.literal.new.self in
    if_both c.literal.result
    (λ label l s. subst (All (λ (m : Literal). m.symbol < length new))
    (sym (made_label new e rest c.is_positive.result label h c.stripped.ensures c.is_positive.ensures l))
    (within new e (made_has c.args.self.now new e rest h c.stripped.ensures s)))
    c.literal.ensures.label c.literal.ensures.symbols

pub returns-clause-holds : goal.returns-clause-holds
returns-clause-holds c =
    let e = expr_of c.args.expr.now in
    let rest = expr_of c.stripped.result.now in
    let h : needs_none e ≡ false = cc in
    let new = c.literal.new.self in
    if_both c.literal.result
    (λ label l s widths a out.
    subst (λ (ls : List Literal). Passes ls (seen_by widths new a) ↔ Holds widths e a)
    (sym (made_label new e rest c.is_positive.result label h c.stripped.ensures c.is_positive.ensures l))
    (passes_holds widths new e a (made_has c.args.self.now new e rest h c.stripped.ensures s) out))
    c.literal.ensures.label c.literal.ensures.symbols
