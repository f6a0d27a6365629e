use Rattle.std.proofs.Common.{◌∙◌}
use Rattle.psl_rewrite.specs.BaseForm.{base_form_of}
use Rattle.port_formulas.specs.Chosen.{position_in}
use Rattle.port_formulas.specs.Over.{over}
use Rattle.mbac_compile.proofs.Built.{base_built, same_built}
use Rattle.mbac_compile.proofs.laws.a_built_formula_has_a_built_base_form.Goals as goal

pub returns : goal.returns
returns c = record {
  built = λ places f h. base_built (base_form_of (over places f)) (same_built (position_in places) f ∙ h.form);
}
