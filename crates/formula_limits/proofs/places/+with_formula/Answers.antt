use Rattle.std.proofs.Common.{subst, sym}
use Rattle.psl_model.specs.View.{sere_of}
use Rattle.psl_rewrite.specs.Conditions.{base_sequences}
use Rattle.psl_rewrite.specs.View.{base_of}
use Rattle.formula_limits.specs.inner.Counted.{Tells}
use Rattle.formula_limits.proofs.Behind.{told_and, told_suffix}
use Rattle.formula_limits.proofs.places.+with_formula.Goals as goal

pub returns-in_ok-between-in-And : goal.returns-in_ok-between-in-And
returns-in_ok-between-in-And t c =
    subst (λ b. Tells (base_sequences (base_of b)) c.args.before c.with_formula-in-And.result) (sym c.in-And.is)
    (told_and c.in-And.left c.in-And.right (base_of c.get.result.now) (base_of c.get-in-And.result.now) c.args.before
    c.in_ok-between-in-And.between c.with_formula-in-And.result c.get.ensures.whole_tree
    c.get-in-And.ensures.whole_tree c.in_ok-between-in-And.ensures c.with_formula-in-And.ensures)

pub returns-in_ok-between-in-Suffix : goal.returns-in_ok-between-in-Suffix
returns-in_ok-between-in-Suffix t c =
    subst (λ b. Tells (base_sequences (base_of b)) c.args.before c.with_formula-in-Suffix.result) (sym c.in-Suffix.is)
    (told_suffix (sere_of c.in-Suffix.sere) c.in-Suffix.body (base_of c.get-in-Suffix.result.now) c.args.before
    c.in_ok-between-in-Suffix.between c.with_formula-in-Suffix.result c.get-in-Suffix.ensures.whole_tree
    c.in_ok-between-in-Suffix.ensures c.with_formula-in-Suffix.ensures)
