use Rattle.std.proofs.Common.{◌≡◌, ◌↔◌, ◌<◌, ◌+◌, ℕ, All, length, slice_index_or}
use Rattle.circuit_core.specs.Netlist.{IsNet}
use Rattle.circuit_core.specs.Run.{On, InEachCycle}
use Rattle.circuit_core.specs.Growth.{Extends}
use Rattle.sequence_circuits.specs.Guards.{numbers}
use Rattle.sequence_circuits.specs.inner.Nets.{stream_at}
use Rattle.sequence_circuits.proofs.valuations.put_both.Given as goal

abbrev pub invariant-loop-each : goal.invariant-loop-each
invariant-loop-each l = record {
  kept : Extends l.fn.net l.net;
  registers : l.net.registers ≡ l.fn.net.registers;
  size : length l.onto.items ≡ length l.fn.onto.items + l.each-index;
  nets : All (λ k. IsNet l.net k.0) l.onto.items;
  before : (s : ℕ) → s < length l.fn.onto.items → slice_index_or (numbers l.onto.items) s 0 ≡ slice_index_or
      (numbers l.fn.onto.items) s 0;
  stream : InEachCycle l.net (λ run n. (v : ℕ) → v < l.each-index →
      On (stream_at run (numbers l.onto.items) (length l.fn.onto.items + v)) n ↔
      (On (stream_at run (numbers l.nets) v) n × On (run l.guard.0) n));
}
