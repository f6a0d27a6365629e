use Rattle.std.proofs.Common.{◌-◌, ◌≤◌, suc, length}
use Rattle.psl_grammar.specs.View.{prop_of}
use Rattle.psl_grammar.specs.declared.symbols.Symbol.TheVariants.{Abort}
use Rattle.unit_reader.specs.inner.Steps.{loop}
use Rattle.unit_reader.specs.inner.PropReaders.{goes_at, abort_with}
use Rattle.unit_reader.proofs.Loops.{Turns}
use Rattle.unit_reader.proofs.operators.read_aborts.Given as goal

abbrev pub invariant-aborts : goal.invariant-aborts
invariant-aborts l =
    Turns (length l.symbols) (goes_at l.symbols Abort) (abort_with l.symbols l.room)
    (loop (goes_at l.symbols Abort) (abort_with l.symbols l.room) (suc (length l.symbols))
    (prop_of l.fn.prop, l.fn.end))
    (prop_of l.body, l.to)
    × (l.fn.end ≤ l.to) × (l.to ≤ length l.symbols)

abbrev pub decreases-aborts : goal.decreases-aborts
decreases-aborts l = length l.symbols - l.to
