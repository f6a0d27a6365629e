use Rattle.std.proofs.Common.{◌≡◌, take}
use Rattle.auto_core.specs.LiteralSets.{put_all}
use Rattle.auto_core.proofs.labels.Label.put_all.Given as goal

abbrev pub invariant-loop-literal : goal.invariant-loop-literal
invariant-loop-literal l = l.self ≡ put_all (take l.literal-index l.literal-items) l.fn.self
