-- What a directive is made of.
use Rattle.std.specs.Prelude.{◌≡◌, ℕ, Option, option_map}
use Rattle.psl_model.specs.Formula.{Formula}
use Rattle.psl_model.specs.Unit.{Directive}
use Rattle.unit_rules.specs.Source.{Source, bytes_at}
use Rattle.psl_units.specs.Unit.{report_at}

-- a directive of this label and this report, by their tokens, and of this formula
pub record IsDirective (s : Source) (label report : Option ℕ) (f : Formula) (d : Directive) : Type 0 where
  pub named : d.label ≡ option_map (bytes_at s) label
  pub reported : d.report ≡ option_map (report_at s) report
  pub meant : d.formula ≡ f
