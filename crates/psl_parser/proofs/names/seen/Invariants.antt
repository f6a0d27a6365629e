use Rattle.std.proofs.Common.{◌≡◌}
use Rattle.psl_parser.specs.Seen.{seen_to}
use Rattle.psl_parser.specs.inner.Names.{AreKnown}
use Rattle.psl_parser.proofs.names.seen.Given as goal

abbrev pub invariant-tokens : goal.invariant-tokens
invariant-tokens l =
    (l.symbols.items ≡ seen_to l.text l.tokens l.place) × AreKnown l.text l.tokens l.place l.names
