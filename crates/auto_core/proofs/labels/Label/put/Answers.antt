use Rattle.std.proofs.Common.{◌≡◌, ◌⊎◌, ◌↔◌, List, Contains, sym, ap, ◌∙◌, subst}
use Rattle.std.specs.List.{insert}
use Rattle.auto_core.specs.declared.labels.Literal.{Literal}
use Rattle.auto_core.specs.LiteralSets.{IsLabel, put_literal}
use Rattle.auto_core.proofs.LabelLemmas.{IsLabel-put_literal, Contains-put_literal}
use Rattle.auto_core.proofs.PutSearch.{found, placed}
use Rattle.auto_core.proofs.labels.Label.put.Goals as goal

set_after : (c : goal.In_ok-insert-in-Err) → c.insert.new.self.items ≡ put_literal c.args.literal
    c.self.inside.literals.items
set_after c = c.in_ok-insert-in-Err.ensures.ok ∙ let e : c.as_slice.result.now ≡ c.self.inside.literals.items =
    c.as_slice.ensures in
    subst (λ (s : List Literal). insert s c.in-Err.place c.args.literal ≡ put_literal c.args.literal s) e
    (placed c.args.literal c.as_slice.result.now (subst IsLabel (sym e) c.self.invariant) c.in-Err.place
    c.in-Err.ensures.bound c.in-Err.ensures.position)

put_after : (c : goal.In_ok-insert-in-Err) → c.insert.new.self.items ≡ put_literal c.args.literal c.args.self.now
put_after c = set_after c ∙ ap (put_literal c.args.literal) c.self.view_is

pub invariant_of-self-in-Err : goal.invariant_of-self-in-Err
invariant_of-self-in-Err c = subst IsLabel (sym (set_after c))
    (IsLabel-put_literal c.args.literal c.self.inside.literals.items c.self.invariant)

pub returns-in_ok-insert-in-Err-clause-ok : goal.returns-in_ok-insert-in-Err-clause-ok
returns-in_ok-insert-in-Err-clause-ok c = put_after c

pub returns-in_ok-insert-in-Err-clause-members : goal.returns-in_ok-insert-in-Err-clause-members
returns-in_ok-insert-in-Err-clause-members c =
    subst (λ (s : List Literal). (l : Literal) → Contains s l ↔ ((l ≡ c.args.literal) ⊎ Contains c.args.self.now l))
    (sym (put_after c))
    (λ l. Contains-put_literal c.args.literal c.args.self.now l)

pub returns-in-Ok-clause-ok : goal.returns-in-Ok-clause-ok
returns-in-Ok-clause-ok c =
    let e : c.as_slice.result.now ≡ c.self.inside.literals.items = c.as_slice.ensures in
    subst (λ (s : List Literal). s ≡ put_literal c.args.literal s) (e ∙ c.self.view_is)
    (found c.args.literal c.as_slice.result.now (subst IsLabel (sym e) c.self.invariant) c.in-Ok.field-0
    c.in-Ok.ensures.bound c.in-Ok.ensures.position)
