use Rattle.std.proofs.Common.{◌≡◌, ◌↔◌, ◌⊎◌, ◌<◌, ℕ, All, length, slice_index_or}
use Rattle.circuit_core.specs.Netlist.{IsNet}
use Rattle.circuit_core.specs.Run.{On, InEachCycle}
use Rattle.circuit_core.specs.Growth.{Extends}
use Rattle.sequence_circuits.specs.inner.Moves.{Targets}
use Rattle.first_failure.specs.declared.automaton.Next.TheVariants.{Fail}
use Rattle.sequence_circuits.specs.Guards.{numbers}
use Rattle.sequence_circuits.specs.inner.Nets.{stream_at}
use Rattle.sequence_circuits.proofs.moves.take_moves.Given as goal

abbrev pub invariant-loop-place : goal.invariant-loop-place
invariant-loop-place l = record {
  kept : Extends l.fn.net l.net;
  registers : l.net.registers ≡ l.fn.net.registers;
  size : length l.arrivals.items ≡ length l.fn.arrivals.items;
  nets : All (λ k. IsNet l.net k.0) l.arrivals.items;
  stream : InEachCycle l.net (λ run n. (s : ℕ) →
      On (stream_at run (numbers l.arrivals.items) s) n
      ↔ (On (stream_at run (numbers l.fn.arrivals.items) s) n ⊎
      ((v : ℕ) × (v < l.place) × (Targets (slice_index_or l.nexts v Fail) l.failure s × On
      (stream_at run (numbers l.taken) v) n))));
}
