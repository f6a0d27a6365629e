use Rattle.std.proofs.Common.{◌≡◌, ◌↔◌, ◌⊎◌, ℕ, All, length}
use Rattle.circuit_core.specs.Netlist.{IsNet}
use Rattle.circuit_core.specs.Run.{On, InEachCycle}
use Rattle.circuit_core.specs.Growth.{Extends}
use Rattle.sequence_circuits.specs.Guards.{numbers}
use Rattle.sequence_circuits.specs.Detection.{letter_at}
use Rattle.sequence_circuits.specs.inner.Nets.{stream_at}
use Rattle.sequence_circuits.specs.inner.Edges.{IsOneTaken}
use Rattle.sequence_circuits.proofs.edges.take_ways.Given as goal

abbrev pub invariant-loop-place : goal.invariant-loop-place
invariant-loop-place l = record {
  kept : Extends l.fn.net l.net;
  registers : l.net.registers ≡ l.fn.net.registers;
  size : length l.arrivals.items ≡ length l.fn.arrivals.items;
  nets : All (λ k. IsNet l.net k.0) l.arrivals.items;
  stream : InEachCycle l.net (λ run n. (s : ℕ) →
      On (stream_at run (numbers l.arrivals.items) s) n
      ↔ (On (stream_at run (numbers l.fn.arrivals.items) s) n
      ⊎ IsOneTaken l.place l.ways run (numbers l.sources) (letter_at run (numbers l.guards) n) s n));
}
