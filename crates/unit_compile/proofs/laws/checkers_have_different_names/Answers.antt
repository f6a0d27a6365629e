use Rattle.std.proofs.Common.{length}
use Rattle.unit_compile.proofs.ModuleNames.{all_differ, few_numbers}
use Rattle.unit_compile.proofs.laws.checkers_have_different_names.Goals as goal

pub returns : goal.returns
returns c = λ text unit modules h short made.
    all_differ unit 1 unit.directives modules
    (few_numbers (length unit.directives) (length text) (c.directives_are_few.ensures text unit h) short)
    (c.directives_are_well_worded.ensures.labels text unit h) (c.labels_are_different.ensures text unit h) made
