-- From a unit of the code to the plain one.
--     directive_of d, unit_of u      its formulas as plain trees
use Rattle.std.specs.Prelude.{map}
use Rattle.psl_model.specs.FormulaView.{formula_of}
use Rattle.psl_model.specs.Unit as plain
use Rattle.psl_model.specs.declared.units.Directive.{Directive}
use Rattle.psl_model.specs.declared.units.PslUnit.{PslUnit}

abbrev pub directive_of : Directive → plain.Directive
directive_of d = record { label = d.label; report = d.report; formula = formula_of d.formula }

abbrev pub unit_of : PslUnit → plain.PslUnit
unit_of u = record { name = u.name; signals = u.signals; directives = map directive_of u.directives }
