use Rattle.compile_examples.proofs.UnitNames.{names, words, expressions}
use Rattle.compile_examples.proofs.directives.the_unit_is_well_made.Goals as goal

pub returns : goal.returns
returns c = record { names = names; words = words; expressions = expressions }
