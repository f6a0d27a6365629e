use Rattle.std.proofs.Common.{◌≡◌, ◌<◌, ℕ, List, Some, All, length, slice_get}
use Rattle.auto_core.specs.Machine.{value_in}
use Rattle.symbol_alphabet.specs.Symbols.{truths}
use Rattle.circuit_core.specs.Netlist.{IsNet}
use Rattle.circuit_core.specs.Run.{InEachRun}
use Rattle.circuit_core.specs.Growth.{Extends}
use Rattle.sequence_circuits.specs.Guards.{numbers, values_at}
use Rattle.sequence_matches.proofs.guards.guard_nets.Given as goal

abbrev pub invariant-loop-symbol : goal.invariant-loop-symbol
invariant-loop-symbol l = record {
  kept : Extends l.fn.net l.net;
  registers : l.net.registers ≡ l.fn.net.registers;
  size : length l.guards.items ≡ l.symbol;
  nets : All (λ k. IsNet l.net k.0) l.guards.items;
  shown : InEachRun l.net (λ inputs run. (n : ℕ) (values : List ℕ) → slice_get inputs.trace n ≡ Some values →
      (s : ℕ) → s < l.symbol →
      values_at run (numbers l.guards.items) n s ≡ value_in (truths l.fn.net.widths l.symbols values) s);
}
