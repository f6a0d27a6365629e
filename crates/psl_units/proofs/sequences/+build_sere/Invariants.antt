use Rattle.std.proofs.Common.{◌+◌}
use Rattle.psl_grammar.specs.RawSere.{sere_size}
use Rattle.psl_grammar.specs.View.{sere_of}
use Rattle.psl_units.specs.inner.Scopes.{sizes_before}
use Rattle.psl_units.proofs.sequences.+build_sere.Given as goal

abbrev pub decreases-build_sere : goal.decreases-build_sere
decreases-build_sere l = sizes_before l.scope.now + sere_size (sere_of l.sere.now)
