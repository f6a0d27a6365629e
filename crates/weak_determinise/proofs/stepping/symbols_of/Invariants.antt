use Rattle.std.proofs.Common.{take}
use Rattle.weak_determinise.specs.inner.Stepping.{AreSymbolsOf}
use Rattle.weak_determinise.proofs.stepping.symbols_of.Given as goal

abbrev pub invariant-loop-label : goal.invariant-loop-label
invariant-loop-label l = AreSymbolsOf (take l.label-index l.labels) l.symbols.items
