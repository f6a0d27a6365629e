use Rattle.std.proofs.Common.{take}
use Rattle.weak_determinise.specs.inner.Stepping.{PutsSymbols}
use Rattle.weak_determinise.proofs.stepping.put_symbols.Given as goal

abbrev pub invariant-loop-literal : goal.invariant-loop-literal
invariant-loop-literal l = PutsSymbols (take l.literal-index l.literal-items) l.fn.symbols.items l.symbols.items
