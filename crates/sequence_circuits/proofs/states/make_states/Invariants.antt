use Rattle.std.proofs.Common.{◌≡◌, ◌+◌, length}
use Rattle.circuit_core.specs.Growth.{Extends}
use Rattle.sequence_circuits.specs.inner.Nets.{AreStates}
use Rattle.sequence_circuits.proofs.states.make_states.Given as goal

abbrev pub invariant-loop-place : goal.invariant-loop-place
invariant-loop-place l = record {
  kept : Extends l.fn.net l.net;
  registers : length l.net.registers ≡ length l.fn.net.registers + l.place;
  size : length l.states.items ≡ l.place;
  states : AreStates l.net (length l.fn.net.registers) l.start.0 l.uncleared.0 l.states.items;
}
