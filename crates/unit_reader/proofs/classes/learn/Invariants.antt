use Rattle.std.proofs.Common.{◌≡◌, ◌≤◌, length, ℕ, suc, true}
use Rattle.psl_grammar.specs.Units.{Known, symbols_in}
use Rattle.unit_reader.specs.inner.Namesakes.{named_at}
use Rattle.unit_reader.proofs.Learning.{Learns}
use Rattle.unit_reader.proofs.classes.learn.Given as goal

abbrev pub invariant-above : goal.invariant-above
invariant-above l =
    (l.above ≤ length l.tokens) × ((k : ℕ) → l.above ≡ suc k → named_at l.text l.tokens l.name k ≡ true)
    × ((known : Known) → l.fn.symbols.items ≡ symbols_in l.text known l.tokens
    → Learns l.text l.tokens l.name l.meaning known l.all.items l.above)
    × (length l.all.items ≡ length l.tokens)

abbrev pub decreases-above : goal.decreases-above
decreases-above l = l.above
