use Rattle.std.proofs.Common.{◌↔◌, ◌<◌, ℕ, length}
use Rattle.circuit_core.specs.Netlist.{IsNet}
use Rattle.circuit_core.specs.Run.{Stream, On, InEachRun}
use Rattle.circuit_core.specs.Growth.{Extends, Grows}
use Rattle.strong_obligations.specs.inner.Delays.{IsOpposite}
use Rattle.strong_obligations.specs.Next.{IsDue, IsAwaited}
use Rattle.strong_obligations.proofs.Stages.{AtStage}
use Rattle.strong_obligations.proofs.chains.chain_of.Given as goal

abbrev pub invariant-loop-stage : goal.invariant-loop-stage
invariant-loop-stage l = record {
  kept : Extends l.fn.net l.net;
  grows : Grows l.fn.net l.net l.stage;
  live_net : IsNet l.net l.chain.live.0;
  due_net : IsNet l.net l.chain.due.0;
  waiting_net : IsNet l.net l.chain.waiting.0;
  live : InEachRun l.net (λ inputs run. (clear : Stream) →
      IsOpposite (length inputs.trace) clear (run l.uncleared.0) →
      (n : ℕ) → n < length inputs.trace → On (run l.chain.live.0) n ↔ AtStage l.stage (run l.fn.start.0) clear n);
  due : InEachRun l.net (λ inputs run. (clear : Stream) →
      IsOpposite (length inputs.trace) clear (run l.uncleared.0) →
      (n : ℕ) → n < length inputs.trace → On (run l.chain.due.0) n ↔ IsDue l.low l.stage (run l.fn.start.0) clear n);
  waiting : InEachRun l.net (λ inputs run. (clear : Stream) →
      IsOpposite (length inputs.trace) clear (run l.uncleared.0) →
      (n : ℕ) → n < length inputs.trace → On (run l.chain.waiting.0) n ↔ IsAwaited l.stage (run l.fn.start.0) clear n);
}
