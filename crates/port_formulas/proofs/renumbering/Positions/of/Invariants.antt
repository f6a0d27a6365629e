use Rattle.std.proofs.Common.{◌≡◌, ◌+◌, ℕ, length, drop}
use Rattle.port_formulas.specs.Chosen.{position_in}
use Rattle.port_formulas.specs.inner.Table.{told}
use Rattle.port_formulas.proofs.renumbering.Positions.of.Given as goal

abbrev pub invariant-loop-position : goal.invariant-loop-position
invariant-loop-position l = record {
  absent : l.positions.absent ≡ length l.places;
  told : (signal : ℕ) → told l.positions signal ≡ l.position + position_in (drop l.position l.places) signal;
}
