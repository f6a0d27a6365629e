use Rattle.std.proofs.Common.{◌≡◌, ◌↔◌, take}
use Rattle.auto_core.specs.Machine.{Passes}
use Rattle.circuit_core.specs.Netlist.{IsNet}
use Rattle.circuit_core.specs.Run.{On, InEachCycle}
use Rattle.circuit_core.specs.Growth.{Extends}
use Rattle.sequence_circuits.specs.Guards.{numbers}
use Rattle.sequence_circuits.specs.Detection.{letter_at}
use Rattle.sequence_circuits.proofs.edges.label_net.Given as goal

abbrev pub invariant-loop-literal : goal.invariant-loop-literal
invariant-loop-literal l = record {
  kept : Extends l.fn.net l.net;
  registers : l.net.registers ≡ l.fn.net.registers;
  net : IsNet l.net l.all.0;
  stream : InEachCycle l.net (λ run n. On (run l.all.0) n ↔ (On (run l.fn.from.0) n
      × Passes (take l.literal-index l.literal-items) (letter_at run (numbers l.guards) n)));
}
