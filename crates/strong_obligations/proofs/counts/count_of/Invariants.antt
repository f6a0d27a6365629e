use Rattle.std.proofs.Common.{◌↔◌, ◌<◌, ℕ, length}
use Rattle.circuit_core.specs.Netlist.{IsNet}
use Rattle.circuit_core.specs.Run.{Stream, On, InEachRun}
use Rattle.circuit_core.specs.Growth.{Extends, Grows}
use Rattle.strong_obligations.specs.inner.Counts.{AreCounted, IsCounted, IsCountedBelow}
use Rattle.strong_obligations.proofs.Counting.{ComesTo}
use Rattle.strong_obligations.proofs.counts.count_of.Given as goal

abbrev pub invariant-loop-events : goal.invariant-loop-events
invariant-loop-events l = record {
  kept : Extends l.fn.net l.net;
  grows : Grows l.fn.net l.net l.events;
  comes_net : IsNet l.net l.count.comes.0;
  due_net : IsNet l.net l.count.due.0;
  waiting_net : IsNet l.net l.count.waiting.0;
  comes : InEachRun l.net (λ inputs run. (clear : Stream) →
      AreCounted (length inputs.trace) (run l.nets.on.0) (run l.nets.quiet.0) (run l.nets.late.0) clear (run l.nets.uncleared.0) →
      (n : ℕ) → n < length inputs.trace →
      On (run l.count.comes.0) n
      ↔ ComesTo (run l.nets.on.0) l.low (On (run l.nets.late.0)) (run l.fn.start.0) clear l.events n);
  due : InEachRun l.net (λ inputs run. (clear : Stream) →
      AreCounted (length inputs.trace) (run l.nets.on.0) (run l.nets.quiet.0) (run l.nets.late.0) clear (run l.nets.uncleared.0) →
      (n : ℕ) → n < length inputs.trace →
      On (run l.count.due.0) n
      ↔ IsCounted (run l.nets.on.0) l.low (On (run l.nets.late.0)) l.first l.events (run l.fn.start.0) clear n);
  waiting : InEachRun l.net (λ inputs run. (clear : Stream) →
      AreCounted (length inputs.trace) (run l.nets.on.0) (run l.nets.quiet.0) (run l.nets.late.0) clear (run l.nets.uncleared.0) →
      (n : ℕ) → n < length inputs.trace →
      On (run l.count.waiting.0) n
      ↔ IsCountedBelow (run l.nets.on.0) l.low (On (run l.nets.late.0)) l.events (run l.fn.start.0) clear n);
}
