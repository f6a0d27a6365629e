use Rattle.std.proofs.Common.{take}
use Rattle.weak_determinise.specs.inner.Stepping.{AreRenamedLabels}
use Rattle.weak_determinise.proofs.stepping.renamed_labels.Given as goal

abbrev pub invariant-loop-label : goal.invariant-loop-label
invariant-loop-label l = AreRenamedLabels l.symbols (take l.label-index l.labels) l.all.items
