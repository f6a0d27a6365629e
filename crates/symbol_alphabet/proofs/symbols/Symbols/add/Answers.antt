use Rattle.std.proofs.Common.{◌∙◌, ◌++◌, ◌∷◌, [], List, Contains, map, sym, ap, subst}
use Rattle.psl_model.specs.Expr.{Expr}
use Rattle.psl_model.specs.View.{expr_of}
use Rattle.psl_model.specs.declared.expressions.Expr as code
use Rattle.symbol_alphabet.specs.Symbols.{AreDifferent}
use Rattle.symbol_alphabet.proofs.Found.{different_push}
use Rattle.symbol_alphabet.proofs.Made.{pushed}
use Rattle.symbol_alphabet.proofs.symbols.Symbols.add.Goals.{in-Ok, in-Err}
use Rattle.symbol_alphabet.proofs.symbols.Symbols.add.Goals as goal

pub invariant_of-self : goal.invariant_of-self
invariant_of-self c =
    let keys = c.self.inside.numbered.keys in
    let out : Contains (map expr_of keys) (expr_of c.args.expr) → ⊥ =
    subst (λ (s : List Expr). Contains s (expr_of c.args.expr) → ⊥) (sym c.self.view_is) c.requires in
    elim c.match-insert.branch [
      | in-Ok w ↦ subst AreDifferent (sym (pushed keys c.insert.new.self.keys c.args.expr out w.in-Ok.ensures.keys))
          (different_push (map expr_of keys) (expr_of c.args.expr) c.self.invariant out)
      | in-Err w ↦ subst (λ (s : List code.Expr). AreDifferent (map expr_of s)) (sym w.in-Err.ensures.err)
          c.self.invariant
    ]

pub returns-clause-ok : goal.returns-clause-ok
returns-clause-ok c =
    let keys = c.self.inside.numbered.keys in
    let out : Contains (map expr_of keys) (expr_of c.args.expr) → ⊥ =
    subst (λ (s : List Expr). Contains s (expr_of c.args.expr) → ⊥) (sym c.self.view_is) c.requires in
    elim c.match-insert.branch [
      | in-Ok w ↦ rw w.result-is (pushed keys c.insert.new.self.keys c.args.expr out w.in-Ok.ensures.keys
          ∙ ap (λ (s : List Expr). s ++ expr_of c.args.expr ∷ []) c.self.view_is)
      | in-Err w ↦ rw w.result-is tt
    ]
