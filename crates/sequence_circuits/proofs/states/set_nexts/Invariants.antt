use Rattle.std.proofs.Common.{ℕ}
use Rattle.sequence_circuits.specs.Guards.{numbers}
use Rattle.sequence_circuits.specs.inner.Nets.{AreStates, AreSet}
use Rattle.sequence_circuits.proofs.states.set_nexts.Given as goal

abbrev pub invariant-loop-place : goal.invariant-loop-place
invariant-loop-place l = (base start uncleared : ℕ) → AreStates l.fn.net base start uncleared l.states →
    AreSet l.fn.net base l.place (numbers l.nexts) l.net
