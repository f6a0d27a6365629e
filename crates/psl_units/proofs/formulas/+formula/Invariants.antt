use Rattle.std.proofs.Common.{◌+◌, ◌*◌}
use Rattle.psl_grammar.specs.RawProp.{prop_size}
use Rattle.psl_grammar.specs.View.{prop_of}
use Rattle.psl_units.specs.inner.Scopes.{sizes_before}
use Rattle.psl_units.proofs.formulas.+formula.Given as goal

abbrev pub decreases-build_formula : goal.decreases-build_formula
decreases-build_formula l = 2 * (sizes_before l.scope.now + prop_size (prop_of l.prop.now))

abbrev pub decreases-build_next : goal.decreases-build_next
decreases-build_next l = 2 * (sizes_before l.scope.now + prop_size l.body.now) + 1

abbrev pub decreases-build_binary : goal.decreases-build_binary
decreases-build_binary l = 2 * (sizes_before l.scope.now + (prop_size l.left.now + prop_size l.right.now)) + 1

abbrev pub decreases-build_suffix : goal.decreases-build_suffix
decreases-build_suffix l = 2 * (sizes_before l.scope.now + prop_size l.body.now) + 1

abbrev pub decreases-build_abort : goal.decreases-build_abort
decreases-build_abort l = 2 * (sizes_before l.scope.now + prop_size l.body.now) + 1
