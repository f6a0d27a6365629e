use Rattle.std.proofs.Common.{◌≡◌, ◌↔◌, ℕ, All, length, take}
use Rattle.auto_core.specs.Machine.{Letter}
use Rattle.circuit_core.specs.Netlist.{IsNet}
use Rattle.circuit_core.specs.Run.{InEachCycle}
use Rattle.circuit_core.specs.Growth.{Extends}
use Rattle.sequence_circuits.specs.Guards.{numbers}
use Rattle.sequence_circuits.specs.inner.Nets.{live_nets, stream_at}
use Rattle.sequence_circuits.specs.inner.Edges.{way_of, IsWithin, Arrives, IsOneTaken}
use Rattle.sequence_circuits.proofs.edges.gather.Given as goal

abbrev pub invariant-loop-edge : goal.invariant-loop-edge
invariant-loop-edge l = record {
  kept : Extends l.fn.net l.net;
  registers : l.net.registers ≡ l.fn.net.registers;
  size : length l.ways.sources.items ≡ length l.ways.ways.keys;
  sources : All (λ k. IsNet l.net k.0) l.ways.sources.items;
  within : (symbols targets : ℕ) → All (λ e. IsWithin symbols targets (way_of e)) l.edges →
      All (IsWithin symbols targets) l.ways.ways.keys;
  stream : InEachCycle l.net (λ run n. (a : Letter) (s : ℕ) →
      IsOneTaken (length l.ways.ways.keys) l.ways.ways.keys run (numbers l.ways.sources.items) a s n
      ↔ Arrives (take l.edge-index l.edges) (stream_at run (live_nets l.states)) a s n);
}
