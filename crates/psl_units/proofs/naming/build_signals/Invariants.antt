use Rattle.std.proofs.Common.{◌≡◌, ◌++◌, map}
use Rattle.psl_units.specs.Unit.{signal_for}
use Rattle.psl_units.proofs.naming.build_signals.Given as goal

abbrev pub invariant-loop-name : goal.invariant-loop-name
invariant-loop-name l = l.built.items ++ map signal_for l.name-iterator ≡ map signal_for l.fn.signals.entries
