use Rattle.std.proofs.Common.{List, All, sym, subst}
use Rattle.psl_model.specs.declared.units.Directive.{Directive}
use Rattle.psl_model.specs.UnitView.{unit_of, directive_of}
use Rattle.mbac_compile.specs.Units.{IsWellWorded, IsWellFormed}
use Rattle.unit_compile.proofs.making.modules_of.Goals as goal

pub directive_modules-requires-clause-words : goal.directive_modules-requires-clause-words
directive_modules-requires-clause-words c =
    subst (λ (xs : List Directive). All (λ (d : Directive). IsWellWorded (directive_of d)) xs)
    (sym c.as_slice-directives.ensures) c.requires.words

pub directive_modules-requires-clause-expressions : goal.directive_modules-requires-clause-expressions
directive_modules-requires-clause-expressions c =
    subst (λ (xs : List Directive). All (λ (d : Directive). IsWellFormed (unit_of c.args.unit.now) (directive_of d)) xs)
    (sym c.as_slice-directives.ensures) c.requires.expressions
