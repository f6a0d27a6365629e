-- The table's names are the positions, each by itself, so they are so as functions.
use Rattle.std.proofs.Common.{◌≡◌, ℕ, IfOk, subst}
use Rattle.psl_model.specs.View.{formula_of}
use Rattle.port_formulas.specs.Over.{formula_named}
use Rattle.port_formulas.proofs.renumbering.over_places.Goals as goal

pub returns : goal.returns
returns c =
    subst (λ (name : ℕ → ℕ). IfOk c.named_formula.result
    (λ named. formula_of named ≡ formula_named name (formula_of c.args.formula.now)))
    (λ i s. c.in_ok-positions.ensures s i) c.named_formula.ensures
