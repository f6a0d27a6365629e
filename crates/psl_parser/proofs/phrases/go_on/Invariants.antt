use Rattle.std.proofs.Common.{◌≡◌, take}
use Rattle.psl_parser.specs.inner.Walk.{go_on}
use Rattle.psl_parser.proofs.phrases.go_on.Given as goal

abbrev pub invariant-phrases : goal.invariant-phrases
invariant-phrases l = l.kept.items ≡ go_on l.sight (take l.phrase-index l.phrases)
