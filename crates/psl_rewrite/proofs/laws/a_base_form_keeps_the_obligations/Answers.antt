use Rattle.psl_model.specs.Sere.{Sere}
use Rattle.psl_rewrite.specs.Obligations.{IsContradictory}
use Rattle.psl_rewrite.proofs.Obliges.{obliges, obliged}
use Rattle.psl_rewrite.proofs.laws.a_base_form_keeps_the_obligations.Goals as goal

pub returns : goal.returns
returns c widths f simple = (
  obliged (λ (r : Sere). ¬ IsContradictory widths r) f simple,
  obliges (λ (r : Sere). ¬ IsContradictory widths r) f simple,
)
