use Rattle.std.proofs.Common.{◌-◌, ◌≤◌, suc, length}
use Rattle.psl_grammar.specs.View.{sere_of}
use Rattle.unit_reader.specs.inner.Steps.{loop}
use Rattle.unit_reader.specs.inner.SereReaders.{times_go, again_with}
use Rattle.unit_reader.proofs.Loops.{Turns}
use Rattle.unit_reader.proofs.sequences.read_repetitions.Given as goal

abbrev pub invariant-times : goal.invariant-times
invariant-times l =
    Turns (length l.symbols) (times_go l.symbols) (again_with l.symbols)
    (loop (times_go l.symbols) (again_with l.symbols) (suc (length l.symbols)) (sere_of l.fn.base, l.fn.end))
    (sere_of l.sere, l.to)
    × (l.fn.end ≤ l.to) × (l.to ≤ length l.symbols)

abbrev pub decreases-times : goal.decreases-times
decreases-times l = length l.symbols - l.to
