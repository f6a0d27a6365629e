use Rattle.std.proofs.Common.{◌≡◌, ◌↔◌, ◌<◌, ◌^◌, ℕ, All, length, take}
use Rattle.circuit_core.specs.Netlist.{IsNet}
use Rattle.circuit_core.specs.Run.{On, InEachCycle}
use Rattle.circuit_core.specs.Growth.{Extends}
use Rattle.sequence_circuits.specs.Guards.{values_at}
use Rattle.sequence_circuits.specs.inner.Moves.{move_number}
use Rattle.sequence_circuits.specs.Guards.{numbers}
use Rattle.sequence_circuits.specs.inner.Nets.{stream_at}
use Rattle.sequence_circuits.proofs.valuations.valuation_nets.Given as goal

abbrev pub invariant-loop-symbol : goal.invariant-loop-symbol
invariant-loop-symbol l = record {
  kept : Extends l.fn.net l.net;
  registers : l.net.registers ≡ l.fn.net.registers;
  size : length l.nets.items ≡ 2 ^ l.symbol-index;
  nets : All (λ k. IsNet l.net k.0) l.nets.items;
  stream : InEachCycle l.net (λ run n. (v : ℕ) → v < 2 ^ l.symbol-index →
      On (stream_at run (numbers l.nets.items) v) n ↔
      (On (run l.fn.live.0) n × (move_number (values_at run (numbers l.guards) n) (take l.symbol-index l.symbols)
      ≡ v)));
}
