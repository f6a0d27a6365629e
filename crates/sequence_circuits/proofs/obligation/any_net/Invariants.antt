use Rattle.std.proofs.Common.{◌≡◌, ◌↔◌, ◌<◌, ℕ}
use Rattle.circuit_core.specs.Netlist.{IsNet}
use Rattle.circuit_core.specs.Run.{On, InEachCycle}
use Rattle.circuit_core.specs.Growth.{Extends}
use Rattle.sequence_circuits.specs.Guards.{numbers}
use Rattle.sequence_circuits.specs.inner.Nets.{stream_at}
use Rattle.sequence_circuits.proofs.obligation.any_net.Given as goal

abbrev pub invariant-loop-place : goal.invariant-loop-place
invariant-loop-place l = record {
  kept : Extends l.fn.net l.net;
  registers : l.net.registers ≡ l.fn.net.registers;
  net : IsNet l.net l.any.0;
  stream : InEachCycle l.net (λ run n. On (run l.any.0) n
      ↔ ((s : ℕ) × (s < l.place) × On (stream_at run (numbers l.nets) s) n));
}
