use Rattle.std.proofs.Common.{◌≡◌}
use Rattle.compile_examples.specs.Ports.{counter}
use Rattle.compile_examples.proofs.seen.steps_so.Given as goal

abbrev pub invariant-loop-count : goal.invariant-loop-count
invariant-loop-count l = l.machine.loaded.ports ≡ counter
