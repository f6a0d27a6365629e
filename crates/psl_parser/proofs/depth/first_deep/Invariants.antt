use Rattle.psl_parser.specs.Depth.{NoneTooDeep}
use Rattle.psl_parser.specs.inner.Walk.{IsAt}
use Rattle.psl_parser.proofs.depth.first_deep.Given as goal

abbrev pub invariant-tokens : goal.invariant-tokens
invariant-tokens l = IsAt l.symbols l.place l.walk × NoneTooDeep l.symbols l.place
