use Rattle.std.proofs.Common.{◌≡◌, ◌↔◌, ◌<◌, ℕ, IsTrue, false, slice_index_or}
use Rattle.circuit_core.specs.Netlist.{IsNet}
use Rattle.circuit_core.specs.Run.{On, InEachCycle}
use Rattle.circuit_core.specs.Growth.{Extends}
use Rattle.sequence_circuits.specs.Guards.{numbers}
use Rattle.sequence_circuits.specs.inner.Nets.{stream_at}
use Rattle.sequence_circuits.proofs.detection.accepted_net.Given as goal

abbrev pub invariant-loop-state : goal.invariant-loop-state
invariant-loop-state l = record {
  kept : Extends l.fn.net l.net;
  registers : l.net.registers ≡ l.fn.net.registers;
  net : IsNet l.net l.found.0;
  stream : InEachCycle l.net (λ run n. On (run l.found.0) n
      ↔ ((s : ℕ) × (s < l.state) × (IsTrue (slice_index_or l.table.accepting s false)
      × On (stream_at run (numbers l.arrivals) s) n)));
}
