use Rattle.std.proofs.Common.{take}
use Rattle.weak_determinise.specs.inner.Stepping.{IsRenamed}
use Rattle.weak_determinise.proofs.stepping.renamed.Given as goal

abbrev pub invariant-loop-literal : goal.invariant-loop-literal
invariant-loop-literal l = IsRenamed l.symbols (take l.literal-index l.literal-items) l.renamed
